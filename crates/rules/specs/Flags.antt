-- Document 01, "One turn", and document 02, "Reading ER clears EF": what a turn does to ER (10) and EF (15).
-- Assumes nothing.
use Rattle.std.specs.Prelude.{◌≡◌, true, List, ◌↔◌, ◌⊎◌, ℕ, ℤ, pos}
use Rattle.effects.specs.declared.Effect.{Effect}
use Rattle.effects.specs.declared.Effect.TheVariants.{Fails, Stores}
use Rattle.effects.specs.Effects.{read}
use Rattle.effects.specs.Deeds.{Deed}
use Rattle.machine.specs.declared.Machine.{Machine}
use Rattle.machine.specs.declared.Turned.{Turned}
use Rattle.machine.specs.Run.{Step}

-- Turn 21: an effect that is an error. Turn 11: one that is a store to ER.
abbrev pub Erring : Effect → Type 0
Erring e = (error : ℕ) × (e ≡ Fails error)

abbrev pub StoresER : Effect → Type 0
StoresER e = (z : ℤ) × (e ≡ Stores 10 z)

-- Turn 11, Turn 23, Q-2 3, Q-2 4: the variables before a turn and after it, by what its statement does.
pub record Flags (d : Deed) (before after : List ℤ) : Type 0 where
  -- Where EF was 1 it is 0 exactly if the statement stored to ER, or read ER and is not in error.
  pub cleared : read before 15 ≡ pos 1 → (read after 15 ≡ pos 0) ↔ (StoresER d.effect ⊎ ((d.reads ≡ true) × (Erring d.effect → ⊥)))
  -- Where it was 0 it is 1 exactly if the statement is in error.
  pub raised : read before 15 ≡ pos 0 → (read after 15 ≡ pos 1) ↔ Erring d.effect
  -- It is 0 or 1.
  pub flag : (read after 15 ≡ pos 0) ⊎ (read after 15 ≡ pos 1)
  -- ER becomes the number of an error, and 0 by a store; by nothing else does it change.
  pub told : (error : ℕ) → d.effect ≡ Fails error → read after 10 ≡ pos error
  pub emptied : StoresER d.effect → read after 10 ≡ pos 0
  pub kept : (Erring d.effect → ⊥) → (StoresER d.effect → ⊥) → read after 10 ≡ read before 10

-- Turn 7: the same of a turn of a run, from before its events to behind its statement.
abbrev pub FlagsIn : Step Machine Deed Turned → Type 0
FlagsIn s = Flags s.does s.before.variables s.came.machine.variables
