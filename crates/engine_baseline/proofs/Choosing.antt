-- What the choice of days says: the outcome it stands for, and of chosen days that they are whole days of the history.
use Prim.Native.Nat.{ℕ, zero, suc, ◌-◌, ◌≤◌, ◌<◌}
use mathlib.Core.Path.{◌≡◌, refl, sym, ap, ap₂, ◌∙◌}
use mathlib.Core.Bool.{Bool, true, false, cond, not, ◌&&◌}
use mathlib.Core.List.{List, [], ◌∷◌, ◌++◌, map}
use mathlib.Core.Option.{Option}
use native.Mathlib.Omega.{arith}
use lib.Dec.{eqb}
use lib.ListN.{length, take, drop, replicate, length-map}
use lib.Seq.{take-take, take-append_seam}
use Rattle.base_lists.specs.Lists.{keep}
use Rattle.base_lists.proofs.Bools.{both}
use Rattle.calendar_groups.specs.declared.Group.{Group}
use Rattle.std.specs.Prelude.{Result, Ok, Err}
use Rattle.method.specs.declared.Request.{Request}
use Rattle.method.specs.declared.Refusal.{Refusal}
use Rattle.method.specs.declared.Refusal.TheVariants.{MarginTooShort, TooFew}
use Rattle.method.specs.Table.{Day, History, held, event_bit, outage_bit}
use Rattle.method.specs.Adjustment.{Baseline, is_average, baseline}
use Rattle.method.specs.Eligible.{higher, insert_by, sort_by, eligible, spare, complete}
use Rattle.method.specs.HighXofY.{high_x_of_y}
use Rattle.method.specs.AverageXofY.{average_x_of_y}
use Rattle.method.specs.Rules.{method_by}
use Rattle.method.specs.Requested.{rules_of, method_of}
use Rattle.method.specs.Method.{Method, Outcome, short, few, chose, outcome, days_of, whole_reach, seen, eligibles, spares, window, chosen}
use Rattle.method.specs.Method.{reach, is_short}
use Rattle.method_laws.proofs.Requested.{lawful}
use Rattle.method_laws.proofs.Stable.{yesterday_held}
use Rattle.method.specs.Verdict.{refused, closing}
use Rattle.engine_answer.specs.declared.Chosen.{Chosen}
use Rattle.engine_answer.specs.Answer.{in_five}
use Rattle.engine_choice.specs.Steps.{choice_of}
use Rattle.engine_choice.proofs.Requested.{chosen_five}
use Rattle.engine_baseline.specs.Engine.{with_days}
use Rattle.engine_baseline.specs.Steps.{Fit, Ready, reply_of}

-- ---- a choice and its outcome
module _ {A O : Type 0} (m : Method A O) (h : History A) where
  abbrev picked : Chosen
  picked = record { days = in_five (days_of (chosen m h)); count = length (chosen m h); reach = reach m h }

  abbrev choice : Bool → Bool → Result Chosen Refusal
  choice s f = cond s (Err (MarginTooShort (whole_reach m))) (cond f (Err (TooFew (length (window m h)) (reach m h))) (Ok picked))

  abbrev ending : Outcome O
  ending = chose (days_of (chosen m h)) (reach m h) (m.finish (chosen m h) (h.day (m.event - 1)) (h.day m.event))

  abbrev ended : Bool → Bool → Outcome O
  ended s f = cond s (short (whole_reach m)) (cond f (few (length (window m h)) (reach m h)) ending)

  -- whether days are chosen
  abbrev pub some : Bool → Bool → Bool
  some s f = not s && not f

  pub none_is : {w : Refusal} → choice_of m h ≡ Err w → some (is_short m h) (eqb (m.taken (length (window m h))) 0) ≡ false
  unfolding choice_of
  none_is {w} e = go (is_short m h) (eqb (m.taken (length (window m h))) 0) e
    where
      go : (s f : Bool) → choice s f ≡ Err w → some s f ≡ false
      go true f k = refl
      go false true k = refl
      go false false k = absurd (let z : ◌≡◌ {A = ℕ} 0 1 = cc in omega arith)

  -- days are chosen, and these
  pub record Chose (c : Chosen) : Type 0 where
    pub enough : is_short m h ≡ false
    pub taken : eqb (m.taken (length (window m h))) 0 ≡ false
    pub chosen : c ≡ picked
    pub outcome : outcome m h ≡ ending

  pub days_is : {c : Chosen} → choice_of m h ≡ Ok c → Chose c
  unfolding choice_of outcome
  days_is {c} e = go (is_short m h) (eqb (m.taken (length (window m h))) 0) refl refl e
    where
      go : (s f : Bool) → is_short m h ≡ s → eqb (m.taken (length (window m h))) 0 ≡ f → choice s f ≡ Ok c → Chose c
      go true f x y k = absurd (let z : ◌≡◌ {A = ℕ} 0 1 = cc in omega arith)
      go false true x y k = absurd (let z : ◌≡◌ {A = ℕ} 0 1 = cc in omega arith)
      go false false x y k = record { enough = x; taken = y; chosen = cc; outcome = ap₂ ended x y }

-- the reply of what is not chosen
pub refused_is : (m : Method Day (Option Baseline)) (h : History Day) {w : Refusal} → choice_of m h ≡ Err w → closing (outcome m h) ≡ refused w
unfolding choice_of outcome closing
refused_is m h {w} e = go (is_short m h) (eqb (m.taken (length (window m h))) 0) e
  where
    go : (s f : Bool) → choice m h s f ≡ Err w → closing (ended m h s f) ≡ refused w
    go true f k = cc
    go false true k = cc
    go false false k = absurd (let z : ◌≡◌ {A = ℕ} 0 1 = cc in omega arith)

-- ---- a rule that holds of every element
module _ {A : Type 0} (P : A → Type 0) where
  abbrev pub Every : List A → Type 0
  Every [] = Unit {0}
  Every (x ∷ xs) = P x × Every xs

  every_take : (n : ℕ) (xs : List A) → Every xs → Every (take n xs)
  every_take zero xs e = tt
  every_take (suc n) [] e = tt
  every_take (suc n) (x ∷ xs) e = (e.0, every_take n xs e.1)

  every_drop : (n : ℕ) (xs : List A) → Every xs → Every (drop n xs)
  every_drop zero xs e = e
  every_drop (suc n) [] e = tt
  every_drop (suc n) (x ∷ xs) e = every_drop n xs e.1

  every_append : (xs ys : List A) → Every xs → Every ys → Every (xs ++ ys)
  every_append [] ys e f = f
  every_append (x ∷ xs) ys e f = (e.0, every_append xs ys e.1 f)

  module _ (before : A → A → Bool) where
    every_insert : (x : A) (xs : List A) → P x → Every xs → Every (insert_by before x xs)
    unfolding insert_by
    every_insert x [] p e = (p, tt)
    every_insert x (y ∷ ys) p e = go (before x y) (every_insert x ys p e.1)
      where
        go : (b : Bool) → Every (insert_by before x ys) → Every (cond b (x ∷ y ∷ ys) (y ∷ insert_by before x ys))
        go true later = (p, e)
        go false later = (e.0, later)

    every_sorted : (xs : List A) → Every xs → Every (sort_by before xs)
    unfolding sort_by
    every_sorted [] e = tt
    every_sorted (x ∷ xs) e = every_insert x (sort_by before xs) e.0 (every_sorted xs e.1)

every_keep : {A : Type 0} (P Q : A → Type 0) (q : A → Bool) → ((x : A) → P x → q x ≡ true → Q x) → (xs : List A) → Every P xs
    → Every Q (keep q xs)
unfolding keep
every_keep P Q q f [] e = tt
every_keep P Q q f (x ∷ xs) e = go (q x) refl (every_keep P Q q f xs e.1)
  where
    go : (b : Bool) → q x ≡ b → Every Q (keep q xs) → Every Q (cond b (x ∷ keep q xs) (keep q xs))
    go true t later = (f x e.0 t, later)
    go false t later = later

-- spares fill a window in an order that adds no day, whatever the method
every_ordered : (P : ℕ × Day → Type 0) (g : Group) (r : Request) (days : List (ℕ × Day)) → Every P days → Every P ((rules_of g r).order days)
unfolding rules_of high_x_of_y average_x_of_y
every_ordered P g r days e = go (is_average r)
  where
    go : (b : Bool) → Every P ((cond b (average_x_of_y g r) (high_x_of_y g r)).order days)
    go true = e
    go false = every_sorted P (higher r) days e

-- ---- the chosen days of a history
module _ (h : History Day) where
  -- a day with what is held of it
  abbrev Known : ℕ × Day → Type 0
  Known p = (p.1 ≡ h.day p.0) × (held h p.0 ≡ true)

  -- and with no reading missing
  abbrev pub Whole : ℕ × Day → Type 0
  Whole p = Known p × (complete p.1 ≡ true)

  known : (ds : List ℕ) → Every Known (map {B = ℕ × Day} (λ d. (d, h.day d)) (keep (held h) ds))
  unfolding keep
  known [] = tt
  known (d ∷ ds) = go (held h d) refl (known ds)
    where
      go : (b : Bool) → held h d ≡ b → Every Known (map {B = ℕ × Day} (λ d. (d, h.day d)) (keep (held h) ds))
          → Every Known (map {B = ℕ × Day} (λ d. (d, h.day d)) (cond b (d ∷ keep (held h) ds) (keep (held h) ds)))
      go true e later = ((refl, e), later)
      go false e later = later

  -- days with what is held of them, listed again
  listed_again : (l : List (ℕ × Day)) → Every Whole l → with_days h (days_of l) ≡ l
  unfolding with_days
  listed_again [] e = refl
  listed_again (p ∷ ps) e = ap₂ (λ (x : Day) l. (p.0, x) ∷ l) (sym e.0.0.0) (listed_again ps e.1)

  complete_first : (a b c : Bool) → ((a && b) && c) ≡ true → a ≡ true
  complete_first a b c e = (both a b (both (a && b) c e).0).0

  eligible_whole : (p : ℕ × Day) → Known p → eligible p.1 ≡ true → Whole p
  unfolding eligible
  eligible_whole p k e = (k, complete_first (complete p.1) (not (event_bit p.1.mark)) (not (outage_bit p.1.mark)) e)

  spare_whole : (p : ℕ × Day) → Known p → spare p.1 ≡ true → Whole p
  unfolding spare
  spare_whole p k e = (k, complete_first (complete p.1) (event_bit p.1.mark) (not (outage_bit p.1.mark)) e)

module _ (group : ℕ → Group) (r : Request) (h : History Day) where
  abbrev method : Method Day (Option Baseline)
  method = method_of group r

  seen_known : Every (Known h) (seen method h)
  unfolding seen
  seen_known = known h method.relevant

  eligibles_whole : Every (Whole h) (eligibles method h)
  unfolding eligibles method_of method_by
  eligibles_whole = every_keep (Known h) (Whole h) (λ (p : ℕ × Day). eligible p.1) (eligible_whole h) (seen method h) seen_known

  kept_whole : Every (Whole h) (keep (λ (p : ℕ × Day). method.spare p.1) (seen method h))
  unfolding method_of method_by
  kept_whole = every_keep (Known h) (Whole h) (λ (p : ℕ × Day). spare p.1) (spare_whole h) (seen method h) seen_known

  spares_whole : Every (Whole h) (spares method h)
  unfolding spares method_of method_by
  spares_whole = every_ordered (Whole h) (group r.event) r (keep (λ (p : ℕ × Day). spare p.1) (seen method h)) kept_whole

  window_whole : Every (Whole h) (window method h)
  unfolding window
  window_whole =
      every_append (Whole h) (take method.most (eligibles method h)) (take (method.fill - length (eligibles method h)) (spares method h))
      (every_take (Whole h) method.most (eligibles method h) eligibles_whole)
      (every_take (Whole h) (method.fill - length (eligibles method h)) (spares method h) spares_whole)

  pub chosen_whole : Every (Whole h) (chosen method h)
  unfolding chosen method_of method_by
  chosen_whole =
      every_take (Whole h) (method.taken (length (window method h))) (drop (method.passed (length (window method h))) (sort_by (higher r) (window method h)))
      (every_drop (Whole h) (method.passed (length (window method h))) (sort_by (higher r) (window method h))
      (every_sorted (Whole h) (higher r) (window method h) window_whole))

  -- the chosen days are those that the history holds
  pub chosen_again : with_days h (days_of (chosen method h)) ≡ chosen method h
  chosen_again = listed_again h (chosen method h) chosen_whole

-- days in five places are as many as there are
five_take : (l : List ℕ) → length l ≤ 5 → take (length l) (in_five l) ≡ l
five_take l h = take-take (length l) 5 (l ++ replicate 5 0) h ∙ take-append_seam l (replicate 5 0)

-- the chosen days by value are those of the history
module _ (group : ℕ → Group) (r : Request) (h : History Day) (c : Chosen) (x : Chose (method_of group r) h c) where
  abbrev ch : List (ℕ × Day)
  ch = chosen (method_of group r) h

  same_count : length (days_of ch) ≡ length ch
  same_count = length-map ch (λ (p : ℕ × Day). p.0)

  listed : take c.count c.days ≡ days_of ch
  listed = rw (x.chosen, ← same_count) (five_take (days_of ch) (omega (arith, same_count, chosen_five group r h)))

  pub days_held : with_days h (take c.count c.days) ≡ ch
  days_held = ap (with_days h) listed ∙ chosen_again group r h

-- what is asked where days are chosen, and the reply
module _ (group : ℕ → Group) (r : Request) (h : History Day) (room : ℕ) (fit : Fit r h room) (c : Chosen) (x : Chose (method_of group r) h c) where
  -- the event is not on day 0
  some_before : 0 < r.event
  unfolding method_of method_by
  some_before = (yesterday_held (method_of group r) (lawful group r) h fit.holds x.taken).0

  pub ready : Ready r room c
  ready =
      record {
        request = fit.request;
        enough = fit.enough;
        some = some_before;
        few = rw x.chosen (chosen_five group r h);
        five = rw (listed group r h c x) (rw x.chosen);
      }

  pub reply_is : reply_of r h c ≡ closing (outcome (method_of group r) h)
  unfolding method_of method_by
  reply_is = ap closing (same ∙ sym x.outcome)
    where
      reaches : c.reach ≡ reach (method_of group r) h
      reaches = ap (λ (k : Chosen). k.reach) x.chosen

      same : chose (take c.count c.days) c.reach
          (baseline r (with_days h (take c.count c.days)) (h.day (r.event - 1)) (h.day r.event))
          ≡ chose (days_of (chosen (method_of group r) h)) (reach (method_of group r) h)
          (baseline r (chosen (method_of group r) h) (h.day (r.event - 1)) (h.day r.event))
      same = λ i. chose (listed group r h c x i) (reaches i) (baseline r (days_held group r h c x i) (h.day (r.event - 1)) (h.day r.event))
