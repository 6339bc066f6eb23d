-- The first k records are k calls: what they leave is what the one fold of calls leaves.
-- Assumes nothing.
use Prim.Native.Nat.{ℕ, zero, suc}
use Rattle.std.specs.Prelude.{◌≡◌, Bool, true, false, List, [], ◌∷◌, eqb}
use Rattle.std.proofs.Math.Path.{refl, sym, ap}
use Rattle.std.proofs.Common.{◌∙◌}
use Rattle.numbers.specs.declared.Terms.{Terms}
use Rattle.logic.specs.Pick.{pick}
use Rattle.qhs.specs.declared.Record.{Record}
use Rattle.qhs.specs.Qhs.{record_at}
use Rattle.lanes.specs.declared.State.{State}
use Rattle.acts.specs.declared.Ask.{Ask}
use Rattle.acts.specs.Worlds.{grid, Call, begin, step, World, answer_to, world_after}
use Rattle.acts.specs.WorldLaws.{after_both}
use Rattle.acts.specs.Worlds as Worlds
use Rattle.play.specs.Play.{ask_of, call_of, call_at, calls, after}

-- A record begins or steps, whatever terms the grid was opened with: only memories of other lengths look at them.
module _ (y z : Terms) (w : World State) (r : Record) where
  abbrev call : (z : Terms) → Bool → Call Ask z
  call z b = pick b (step r.process) (begin r.process (ask_of r))

  pub leaves_alike : world_after grid w (call_of y r) ≡ world_after grid w (call_of z r)
  leaves_alike = by (eqb r.kind 0)
    where
      by : (b : Bool) → world_after grid w (call y b) ≡ world_after grid w (call z b)
      by true = refl
      by false = refl

  pub answers_alike : answer_to grid w (call_of y r) ≡ answer_to grid w (call_of z r)
  answers_alike = by (eqb r.kind 0)
    where
      by : (b : Bool) → answer_to grid w (call y b) ≡ answer_to grid w (call z b)
      by true = refl
      by false = refl

module _ (z : Terms) (bytes : List ℕ) (w : World State) where
  pub after_calls_lem : (k : ℕ) → after bytes w k ≡ Worlds.after grid w (calls z bytes k)
  unfolding after calls Worlds.after
  after_calls_lem zero = refl
  after_calls_lem (suc k) =
      leaves_alike w.state.terms z (after bytes w k) (record_at bytes k)
      ∙ ap (λ (x : World State). world_after grid x (call_of z (record_at bytes k))) (after_calls_lem k)
      ∙ sym (after_both grid w (calls z bytes k) (call_of z (record_at bytes k) ∷ []))

  -- Line k says what call k answers there.
  pub answer_call : (k : ℕ)
      → answer_to grid (after bytes w k) (call_at bytes w k) ≡ answer_to grid (Worlds.after grid w (calls z bytes k)) (call_of z (record_at bytes k))
  answer_call k =
      answers_alike w.state.terms z (after bytes w k) (record_at bytes k)
      ∙ ap (λ (x : World State). answer_to grid x (call_of z (record_at bytes k))) (after_calls_lem k)
