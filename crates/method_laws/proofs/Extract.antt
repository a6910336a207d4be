-- Demand 3 in the customer's words, over the verdict of a lent table and a list of moves: an extract that is well formed and holds the event.
use mathlib.Core.Path.{◌≡◌, refl, sym, ap, ◌∙◌}
use mathlib.Core.Logic.{⊎_elim}
use mathlib.Core.Bool.{Bool, true, false, not, ◌||◌}
use mathlib.Core.List.{List}
use Prim.Native.Nat.{ℕ, ◌≤◌, ◌<◌}
use native.Mathlib.Omega.{arith}
use lib.Dec.{leb}
use borrow.Author.Tests.{leb-true, le-leb}
use Rattle.base_lists.specs.Lists.{all, any}
use Rattle.base_lists.proofs.Bools.{clash, bool_cases, and_left, and_right}
use Rattle.calendar_groups.specs.Holidays.{good_moves, group}
use Rattle.method.specs.declared.Request.{Request}
use Rattle.method.specs.declared.Refusal.{Refusal}
use Rattle.method.specs.declared.Refusal.TheVariants.{MarginTooShort}
use Rattle.method.specs.Table.{Table, held_days, held, history, shaped, is_extract, good_mark, good_reading}
use Rattle.method.specs.Method.{reach, whole_reach}
use Rattle.method.specs.Rules.{method_by}
use Rattle.method.specs.Requested.{method_of}
use Rattle.method.specs.Verdict.{refused, table_refusals, first_of, methodology, by_list, verdict, well_formed}
use Rattle.method.specs.CutTables.{LongerFormed, CutFrom, held_before, cut_to, Undecided, Parted, is_margin, is_settled, reported, NoneEarlier}
use Rattle.method.proofs.Tables.{formed_is, cut_part, cut_before}
use Rattle.method_laws.proofs.Reach.{reach_held}
use Rattle.method_laws.proofs.Requested.{lawful}
use Rattle.method_laws.proofs.Replies.{margin_is}
use Rattle.method_laws.proofs.ByList.{by_good, by_bad, good_by}
use Rattle.method_laws.proofs.Settled.{settled_margin, settled_early, settled_reach}
use Rattle.method_laws.proofs.CutTables.{demand3}

-- of a well-formed extract the verdict is the reply by the list of moves
pub verdict_is : (moves : List ℕ) (t : Table) (r : Request) (room : ℕ) → is_extract t ≡ true → well_formed t ≡ true
    → verdict moves t r room ≡ by_list moves (history t) r room
unfolding verdict table_refusals first_of
verdict_is moves t r room extract well =
    let f = formed_is t well in
    rw (extract, f.good_marks, f.good_readings)

-- where none of the refusals 1 to 3 applies, a table is a well-formed extract
three : (a b c : Bool) → (not a || (not b || (not c || false))) ≡ false → (a ≡ true) × (b ≡ true) × (c ≡ true)
three true true true e = (refl, refl, refl)
three true true false e = absurd (clash refl e)
three true false c e = absurd (clash refl e)
three false b c e = absurd (clash refl e)

pub none_of_table : (t : Table) → any (λ (p : Bool × Refusal). p.0) (table_refusals t) ≡ false → (is_extract t ≡ true) × (well_formed t ≡ true)
unfolding table_refusals any well_formed is_extract
none_of_table t e = (is.0, rw (and_right (leb (held_days t) 128) (shaped t) is.0, is.1, is.2))
  where
    is : (is_extract t ≡ true) × (all good_mark t.marks ≡ true) × (all good_reading t.readings ≡ true)
    is = three (is_extract t) (all good_mark t.marks) (all good_reading t.readings) e

shaped_is : (t : Table) → well_formed t ≡ true → shaped t ≡ true
unfolding well_formed
shaped_is t e = search (and_left, and_right)

-- a part of an extract is one
part_extract : (t p : Table) (r : Request) → is_extract t ≡ true → CutFrom p t r → is_extract p ≡ true
unfolding is_extract
part_extract t p r e x =
    let most : leb (held_days t) 128 ≡ true = search and_left in
    let days = leb-true (held_days t) 128 most in
    rw (le-leb (held_days p) 128 (omega (arith, x.longer.starts, x.longer.ends)), shaped_is p x.formed)

module _ (moves : List ℕ) (t : Table) (r : Request) (room : ℕ)
    (extract : is_extract t ≡ true) (well : well_formed t ≡ true) (holds : held (history t) r.event ≡ true) where
  listed : verdict moves t r room ≡ by_list moves (history t) r room
  listed = verdict_is moves t r room extract well

  is : good_moves moves ≡ true → verdict moves t r room ≡ methodology (group moves) (history t) r room
  is good = listed ∙ by_good moves (history t) r room good

  -- "every longer well-formed history that agrees with the extract .. gets the same by the methodology, all numbers included", "for the same list"
  pub verdict_stable : is_margin (verdict moves t r room) ≡ false → (l : Table) → LongerFormed l t
      → by_list moves (history l) r room ≡ verdict moves t r room
  verdict_stable clear l x =
      ⊎_elim
      (λ (g : good_moves moves ≡ true).
      by_good moves (history l) r room g ∙ (demand3 (group moves) t r room well holds).stable (sym (ap is_margin (is g)) ∙ clear) l x ∙ sym (is g))
      (λ (b : good_moves moves ≡ false). by_bad moves (history l) r room b ∙ sym (by_bad moves (history t) r room b) ∙ sym listed)
      (bool_cases (good_moves moves))

  -- "'Margin too short' is given, once no earlier refusal applies, exactly when two longer well-formed histories .. have different baseline
  -- windows": any two give it, and the two that are shown are strictly longer
  pub verdict_margin : good_moves moves ≡ true → NoneEarlier t r room
      → (is_margin (verdict moves t r room) ≡ true → Parted (group moves) t r) × (Undecided (group moves) t r → is_margin (verdict moves t r room) ≡ true)
  verdict_margin good n = (
    λ e. (demand3 (group moves) t r room well holds).only_when n (sym (ap is_margin (is good)) ∙ e),
    λ u. ap is_margin (is good) ∙ (demand3 (group moves) t r room well holds).given_when n u,
  )

  module _ (settled : is_settled (verdict moves t r room) ≡ true) where
    pub settled_good : good_moves moves ≡ true
    settled_good = good_by moves (history t) r room is_settled refl (sym (ap is_settled listed) ∙ settled)

    given : verdict moves t r room ≡ methodology (group moves) (history t) r room
    given = is settled_good

    settled_method : is_settled (methodology (group moves) (history t) r room) ≡ true
    settled_method = rw given at settled

    none_earlier : NoneEarlier t r room
    none_earlier = settled_early (group moves) t r room settled_method

    clear : is_margin (methodology (group moves) (history t) r room) ≡ false
    clear = settled_margin (methodology (group moves) (history t) r room) settled_method

    reported_is : reported (verdict moves t r room) ≡ reach (method_of (group moves) r) (history t)
    reported_is = ap reported given ∙ settled_reach (group moves) t r room settled_method

    -- so many days before the event are held
    pub reach_within : reported (verdict moves t r room) ≤ held_before t r
    unfolding method_of method_by
    reach_within =
        rw reported_is
        (reach_held (method_of (group moves) r) (lawful (group moves) r) (history t) holds (sym (margin_is (group moves) t r room none_earlier) ∙ clear))

    -- the table cut to `k` days before the event, at most the reach
    module _ (k : ℕ) (e : k ≤ reported (verdict moves t r room)) where
      part : CutFrom (cut_to t r k) t r
      part = cut_part t r well holds k (omega (arith, e, reach_within))

      days : held_before (cut_to t r k) r ≡ k
      days = cut_before t r well holds k (omega (arith, e, reach_within))

      part_is : verdict moves (cut_to t r k) r room ≡ methodology (group moves) (history (cut_to t r k)) r room
      part_is =
          verdict_is moves (cut_to t r k) r room (part_extract t (cut_to t r k) r extract part) part.formed ∙
          by_good moves (history (cut_to t r k)) r room settled_good

    -- "The reported reach is the fewest days before the event that give this result."
    pub reach_same : verdict moves (cut_to t r (reported (verdict moves t r room))) r room ≡ verdict moves t r room
    reach_same =
        part_is k all ∙
        (demand3 (group moves) t r room well holds).same clear (cut_to t r k) (part k all) (omega (arith, reported_is, days k all)) ∙ sym given
      where
        k : ℕ
        k = reported (verdict moves t r room)

        all : k ≤ k
        all = omega arith

    -- "one day less gives refusal 8 whenever reach is not 0", and so does any number of days less
    pub reach_fewest : (k : ℕ) → k < reported (verdict moves t r room)
        → verdict moves (cut_to t r k) r room ≡ refused (MarginTooShort (whole_reach (method_of (group moves) r)))
    reach_fewest k less = part_is k fits ∙ (demand3 (group moves) (cut_to t r k) r room (part k fits).formed (part k fits).holds).carried margin
      where
        fits : k ≤ reported (verdict moves t r room)
        fits = omega arith

        margin : is_margin (methodology (group moves) (history (cut_to t r k)) r room) ≡ true
        margin =
            (demand3 (group moves) t r room well holds).fewer none_earlier (cut_to t r k) (part k fits) (omega (arith, reported_is, days k fits))
