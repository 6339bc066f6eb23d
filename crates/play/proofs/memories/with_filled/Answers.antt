-- `play::memories::with_filled` meets its contract: what the check does not find alone.
use Rattle.std.proofs.Common.{refl, arith}
use Rattle.qhs.specs.Parts.{part_length}
use Rattle.play.specs.Play.{cell_room, directory_room, pool_room}
use Rattle.play.proofs.Fills.{filled_is}
use Rattle.play.proofs.memories.with_filled.Goals as goal

pub slice_bounds-lent-end-4 : goal.slice_bounds-lent-end-4
slice_bounds-lent-end-4 g c = part_length _ pool_room _ (omega (arith, c.pool_words.ensures, c.requires.fits.p_high, c.requires.fits.m_high))

pub run-requires : goal.run-requires
run-requires g c = c.requires.takes _ _
    (filled_is c.args.h cell_room directory_room pool_room _ _ c.requires.fits.p_high c.requires.fits.m_high refl refl refl c.directory_words.ensures
    c.pool_words.ensures)
    refl

pub returns : goal.returns
returns g c = (
  _,
  _,
  _,
  _,
  filled_is c.args.h cell_room directory_room pool_room _ _ c.requires.fits.p_high c.requires.fits.m_high refl refl refl c.directory_words.ensures
      c.pool_words.ensures,
  refl,
  c.run.ensures,
  refl,
)
