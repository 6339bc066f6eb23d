-- The answer for each kind of file.
-- Assumes nothing.
use Rattle.std.specs.Prelude.{Err, None}
use Prim.Native.Nat.{ℕ, ◌+◌, ◌<◌, ◌≤◌}
use mathlib.Core.Path.{◌≡◌, sym, ◌∙◌}
use mathlib.Core.List.{List}
use native.Mathlib.Omega.{arith}
use lib.ListN.{length}
use borrow.Author.Tests.{le-leb, lt-leb}
use Rattle.refusals.specs.declared.Refusal.{Refusal}
use Rattle.qhs.specs.declared.Header.{Header}
use Rattle.qhs.specs.Qhs.{read_of, Reading, scheduled}
use Rattle.qhs.specs.Laws.{schedule}
use Rattle.text.specs.Text.{file_refused_line}
use Rattle.byte_lists.specs.Bytes.{Placed, placed, put_of}
use Rattle.byte_lists.specs.Places.{put_fits}
use Rattle.text.specs.Lengths.{file_refused_short}
use Rattle.play.specs.Play.{filled, schedule_text, output_room, put, play_of}
use Rattle.play.specs.Inner.{Small, Ready}

pub play_ready : (bytes out : List ℕ) (is : Reading) (h : Header) (n : ℕ) → output_room ≤ length out → is ≡ read_of bytes → is ≡ scheduled h n
    → Ready h n out
play_ready bytes out is h n room read e =
    let s = schedule bytes is h n read e in
    record { p_high = s.counts.p_high; m_high = s.m_few; n_high = s.n_high; room = room }

pub play_small : (bytes : List ℕ) (is : Reading) (h : Header) (n : ℕ) → is ≡ read_of bytes → is ≡ scheduled h n → Small h
play_small bytes is h n read e = let s = schedule bytes is h n read e in record { p_high = s.counts.p_high; m_high = s.m_few }

module _ (bytes out : List ℕ) where
  pub play_none : length out < output_room → placed None out ≡ play_of out bytes
  play_none h = simp (lt-leb _ _ h)

  module _ (room : output_room ≤ length out) (is : Reading) (read : is ≡ read_of bytes) (r : Placed) where
    pub play_refused : (f : Refusal) → is ≡ Err f → r ≡ put_of out 0 (file_refused_line f) → r ≡ play_of out bytes
    play_refused f e g =
        let short = file_refused_short f in
        let zero : 0 + length (file_refused_line f) ≡ length (file_refused_line f) = omega arith in
        let named : read_of bytes ≡ Err f = sym read ∙ e in
        g ∙ put_fits out (file_refused_line f) 0 (omega arith) ∙ simp (le-leb _ _ room, named, zero)

    pub play_schedule : (h : Header) (n : ℕ) → is ≡ scheduled h n → r ≡ put out (schedule_text bytes h n (filled h)) → r ≡ play_of out bytes
    play_schedule h n e g =
        let named : read_of bytes ≡ scheduled h n = sym read ∙ e in
        g ∙ simp (le-leb _ _ room, named)
