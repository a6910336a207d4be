-- The groups part the days: over the three Bools that decide them, by their cases.
use Prim.Native.Nat.{ℕ, ◌+◌, ◌%◌}
use mathlib.Core.Path.{◌≡◌, refl}
use mathlib.Core.Bool.{Bool, true, false, cond, not, ◌&&◌, ◌||◌, and-false, true≢false}
use mathlib.Core.Logic.{◌↔◌, ⊎_elim}
use native.Mathlib.Omega.{arith}
use borrow.Author.Tests.{eqb-true, ne_eqb}
use Rattle.base_lists.proofs.Bools.{bool_cases}
use Rattle.calendar_groups.specs.Holidays.{is_saturday, is_sunday}
use Rattle.calendar_groups.specs.declared.Group.{Group}
use Rattle.calendar_groups.specs.declared.Group.TheVariants.{Weekday, Saturday, HolidayGroup}

-- no day is a Saturday and a Sunday
pub not_both : (d : ℕ) → (is_saturday d && is_sunday d) ≡ false
not_both d =
    ⊎_elim (λ s. rw (ne_eqb (d % 7) 1 (no_sunday s)) (and-false (is_saturday d))) (λ n. rw n) (bool_cases (is_saturday d))
  where
    no_sunday : is_saturday d ≡ true → d % 7 ≡ 1 → ⊥
    no_sunday s e = let z = eqb-true (d % 7) 0 s in omega arith

module _ (saturday sunday holiday : Bool) where
  abbrev pub group_from : Group
  group_from = cond (sunday || holiday) HolidayGroup (cond saturday Saturday Weekday)

  abbrev pub describes_from : Group → Bool
  describes_from HolidayGroup = sunday || holiday
  describes_from Saturday = saturday && not holiday
  describes_from Weekday = not saturday && not sunday && not holiday

  abbrev pub Parted : Type 0
  Parted =
      (cond (describes_from HolidayGroup) 1 0 + cond (describes_from Saturday) 1 0 + cond (describes_from Weekday) 1 0 ≡ 1) ×
      ((g : Group) → (group_from ≡ g) ↔ (describes_from g ≡ true))

pub parted : (sat sun hol : Bool) → (sat && sun) ≡ false → Parted sat sun hol
parted true true hol n = absurd (true≢false n)
parted true false true n = (refl, elim [ HolidayGroup ↦ (λ e. cc, λ e. cc) | Saturday ↦ (λ e. cc, λ e. cc) | Weekday ↦ (λ e. cc, λ e. cc) ])
parted true false false n = (refl, elim [ HolidayGroup ↦ (λ e. cc, λ e. cc) | Saturday ↦ (λ e. cc, λ e. cc) | Weekday ↦ (λ e. cc, λ e. cc) ])
parted false true hol n = (refl, elim [ HolidayGroup ↦ (λ e. cc, λ e. cc) | Saturday ↦ (λ e. cc, λ e. cc) | Weekday ↦ (λ e. cc, λ e. cc) ])
parted false false true n = (refl, elim [ HolidayGroup ↦ (λ e. cc, λ e. cc) | Saturday ↦ (λ e. cc, λ e. cc) | Weekday ↦ (λ e. cc, λ e. cc) ])
parted false false false n = (refl, elim [ HolidayGroup ↦ (λ e. cc, λ e. cc) | Saturday ↦ (λ e. cc, λ e. cc) | Weekday ↦ (λ e. cc, λ e. cc) ])
