-- What a file asks for, open takes: the words that a grid is lent are as many as its terms ask for.
-- Assumes nothing.
use Rattle.std.specs.Prelude.{◌≡◌, true}
use Rattle.std.proofs.Common.{le-leb}
use Rattle.std.proofs.lemmas.List.{length-replicate}
use Rattle.numbers.specs.Numbers.{most_processes, most_cells, directory_words, pool_words}
use Rattle.qhs.specs.declared.Header.{Header}
use Rattle.qhs.specs.Qhs.{terms_of}
use Rattle.qhs.specs.Laws.{Counted}
use Rattle.acts.specs.Calls.{lengths_fit, opening_of}
use Rattle.acts.specs.Lent.{lengths_fit_lem}
use Rattle.acts.specs.Worlds.{grid, Accepted}
use Rattle.play.specs.Play.{low_of, filled}

pub filled_fits : (h : Header) → lengths_fit (terms_of h) (filled h) ≡ true
filled_fits h =
    lengths_fit_lem {z = terms_of h} {mem = filled h} (record {
      readings = length-replicate h.m (low_of h);
      links = length-replicate h.m h.fill;
      directory = length-replicate (directory_words h.p) (low_of h);
      pool = length-replicate (pool_words h.p h.m) (low_of h);
    })

pub accepted : (h : Header) → Counted h.p h.m → Accepted grid (terms_of h) (filled h)
unfolding opening_of
accepted h c =
    rw (
      le-leb 1 h.p c.p_low,
      le-leb h.p most_processes c.p_high,
      le-leb 1 h.m c.m_low,
      le-leb h.m most_cells c.m_high,
      filled_fits h,
    )
