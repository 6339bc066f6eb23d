-- Each case of putting bytes into a buffer, as a law of its definition.
-- Assumes nothing.
use Rattle.std.specs.Prelude.{Some, None}
use Rattle.std.proofs.Common.{ℕ, ◌+◌, ◌-◌, ◌<◌, ◌≤◌, ◌≡◌, List, length, arith, drop-drop}
use Rattle.std.proofs.lemmas.Bool.{le-leb, lt-leb}
use borrow.Rule.Slice.PartMut.{put_mid}
use Rattle.byte_lists.specs.Bytes.{splice, placed, put_of}

module _ (out bytes : List ℕ) (at : ℕ) where
  pub put_none : length out < at + length bytes → placed None out ≡ put_of out at bytes
  unfolding put_of
  put_none h = simp (lt-leb _ _ h)

  pub put_all : (end : ℕ) (ys : List ℕ) → end ≡ at + length bytes → end ≤ length out → ys ≡ bytes
      → placed (Some end) (put_mid at (end - at) out ys) ≡ put_of out at bytes
  unfolding put_of splice
  put_all end ys e h g =
      let k : at + length bytes - at ≡ length bytes = omega arith in
      let room : at + length bytes ≤ length out = omega arith in
      rw (g, e, k, drop-drop (length bytes) at out) (simp (le-leb _ _ room))
