-- The numbers of a row that is made of four, by name.
use Prim.Native.Nat.{ℕ, zero, suc, ◌-◌, ◌≤◌, ◌<◌}
use mathlib.Core.Path.{◌≡◌, refl, sym, ap, ◌∙◌}
use mathlib.Core.Bool.{true}
use mathlib.Core.List.{List, ◌++◌}
use native.Mathlib.Omega.{arith}
use lib.ListN.{length, replicate, length-append, length-replicate, get_or-append}
use lib.IntN.{ℤ}
use Rattle.std.specs.Prelude.{Option, None}
use Rattle.base_lists.proofs.Parts.{get_or-append_past}
use Rattle.calendar_groups.specs.declared.Group.{Group}
use Rattle.method.specs.declared.Request.{Request}
use Rattle.method.specs.Table.{Day, History}
use Rattle.method.specs.Relevant.{group_number}
use Rattle.method.specs.Requested.{method_of}
use Rattle.engine_window.specs.declared.Window.{Window}
use Rattle.engine_window.specs.Steps.{window_of}
use Rattle.host_answer.specs.Names.{told, by_name, row_from}
use Rattle.host_answer.proofs.Telling.{past, no_name}
use Rattle.host_working.specs.Told.{window_numbers, adjustment_numbers, day_numbers, quarter_numbers, working_row}
use Rattle.host_rooms.specs.Steps.{window_row}

-- of two rows one behind the other
first_row : (xs ys : List (Option ℤ)) (k : ℕ) → k < length xs → by_name xs k ≡ by_name (xs ++ ys) k
unfolding by_name
first_row xs ys k o = sym (get_or-append xs ys None k o)

next_row : (xs ys : List (Option ℤ)) (k : ℕ) → length xs ≤ k → by_name ys (k - length xs) ≡ by_name (xs ++ ys) k
unfolding by_name
next_row xs ys k o = sym (get_or-append_past xs ys k None o)

from_first : (first : ℕ) (numbers : List (Option ℤ)) (name : ℕ) → 0 < first → first ≤ name → by_name numbers (name - first) ≡ by_name (row_from first numbers) name
unfolding by_name row_from
from_first first numbers zero f o = absurd (omega arith)
from_first first numbers (suc name) f o =
    let long : length (replicate {A = Option ℤ} (first - 1) None) ≡ first - 1 = length-replicate {A = Option ℤ} (first - 1) None in
    let k : suc name - first ≡ name - length (replicate {A = Option ℤ} (first - 1) None) = omega (arith, long) in
    rw k (sym (get_or-append_past (replicate (first - 1) None) numbers name None (omega (arith, long))))

module _ (group : ℕ → Group) (r : Request) (h : History Day) (at : ℕ) where
  abbrev W : List (Option ℤ)
  W = window_numbers group r h

  abbrev A : List (Option ℤ)
  A = adjustment_numbers group r h

  abbrev D : List (Option ℤ)
  D = day_numbers group r h at

  abbrev Q : List (Option ℤ)
  Q = quarter_numbers group r h at

  W_long : length W ≡ 5
  W_long = unfold window_numbers in refl

  A_long : length A ≡ 3
  A_long = unfold adjustment_numbers in refl

  D_long : length D ≡ 6
  D_long = unfold day_numbers in refl

  Q_long : length Q ≡ 2
  Q_long = unfold quarter_numbers in refl

  pub result_told : told 0 ≡ by_name (working_row group r h at) 0
  unfolding working_row row_from by_name
  result_told = refl

  abbrev row : List (Option ℤ)
  row = W ++ (A ++ (D ++ Q))

  row_long : length row ≡ 16
  row_long = rw (length-append, length-append, length-append, W_long, A_long, D_long, Q_long)

  in_row : (name : ℕ) → 25 ≤ name → by_name row (name - 25) ≡ by_name (working_row group r h at) name
  unfolding working_row window_numbers adjustment_numbers
  in_row name o = from_first 25 row name (omega arith) o

  pub window_told : (name : ℕ) → 25 ≤ name → name ≤ 29 → by_name W (name - 25) ≡ by_name (working_row group r h at) name
  window_told name a b = first_row W (A ++ (D ++ Q)) (name - 25) (omega (arith, W_long)) ∙ in_row name a

  pub adjustment_told : (name : ℕ) → 30 ≤ name → name ≤ 32 → by_name A (name - 30) ≡ by_name (working_row group r h at) name
  adjustment_told name a b =
      let k : name - 30 ≡ name - 25 - length W = omega (arith, W_long) in
      rw k (first_row A (D ++ Q) (name - 25 - length W) (omega (arith, W_long, A_long)) ∙ next_row W (A ++ (D ++ Q)) (name - 25) (omega (arith, W_long)) ∙ in_row name (omega arith))

  pub day_told : (name : ℕ) → 33 ≤ name → name ≤ 38 → by_name D (name - 33) ≡ by_name (working_row group r h at) name
  day_told name a b =
      let k : name - 33 ≡ name - 25 - length W - length A = omega (arith, W_long, A_long) in
      rw k (first_row D Q (name - 25 - length W - length A) (omega (arith, W_long, A_long, D_long))
      ∙ next_row A (D ++ Q) (name - 25 - length W) (omega (arith, W_long, A_long))
      ∙ next_row W (A ++ (D ++ Q)) (name - 25) (omega (arith, W_long)) ∙ in_row name (omega arith))

  pub quarter_told : (name : ℕ) → 39 ≤ name → name ≤ 40 → by_name Q (name - 39) ≡ by_name (working_row group r h at) name
  quarter_told name a b =
      let k : name - 39 ≡ name - 25 - length W - length A - length D = omega (arith, W_long, A_long, D_long) in
      rw k (next_row D Q (name - 25 - length W - length A) (omega (arith, W_long, A_long, D_long))
      ∙ next_row A (D ++ Q) (name - 25 - length W) (omega (arith, W_long, A_long))
      ∙ next_row W (A ++ (D ++ Q)) (name - 25) (omega (arith, W_long)) ∙ in_row name (omega arith))

  pub none_told : (name : ℕ) → (name ≡ 0 → ⊥) → (25 ≤ name → 41 ≤ name) → None ≡ by_name (working_row group r h at) name
  unfolding working_row window_numbers adjustment_numbers
  none_told name n o = no_name 25 row name (omega arith) (omega arith) (λ l. omega (arith, o l, row_long))

-- the window by value tells what the methodology's does
module _ (group : ℕ → Group) (r : Request) (h : History Day) where
  pub group_told : {g : Group} {x : ℕ} → x ≡ group_number g → g ≡ group r.event → told x ≡ by_name (window_numbers group r h) 0
  unfolding window_numbers by_name
  group_told e k = ap told (e ∙ ap group_number k)

  pub size_told : {w : Window} (place : ℕ) → (place ≡ 0 → ⊥) → w ≡ window_of (method_of group r) h → by_name (window_row w) (place - 1) ≡ by_name (window_numbers group r h) place
  unfolding window_numbers window_row window_of by_name
  size_told zero n e = absurd (n refl)
  size_told (suc place) n e = let k : suc place - 1 ≡ place = omega arith in rw (e, k)

-- of a window by value, where 8 is given, and past its four numbers
module _ (w : Window) where
  pub short_told : w.short ≡ true → (place : ℕ) → (place ≡ 0 → ⊥) → None ≡ by_name (window_row w) place
  unfolding window_row by_name
  short_told e zero n = absurd (n refl)
  short_told e (suc zero) n = rw e
  short_told e (suc (suc zero)) n = rw e
  short_told e (suc (suc (suc zero))) n = rw e
  short_told e (suc (suc (suc (suc place)))) n = refl

  pub no_size : (place : ℕ) → (place ≡ 0 → ⊥) → (place ≡ 1 → ⊥) → (place ≡ 2 → ⊥) → (place ≡ 3 → ⊥) → None ≡ by_name (window_row w) place
  unfolding window_row
  no_size place z a b c = past _ place (omega arith)
