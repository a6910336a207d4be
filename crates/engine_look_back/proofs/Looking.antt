-- What is found of the days looked at, as one more of them is judged, up to the one that fills the window.
use Prim.Native.Nat.{ℕ, zero, suc, ◌+◌, ◌-◌, ◌≤◌, ◌<◌, min}
use mathlib.Core.Path.{◌≡◌, refl, sym, ap, ◌∙◌}
use mathlib.Core.Bool.{Bool, true, false, cond, not, ◌&&◌, false≢true}
use mathlib.Core.List.{List, [], ◌∷◌, ◌++◌, map, map-append, append-nil, append_assoc}
use mathlib.Core.Logic.{⊎_elim}
use native.Mathlib.Omega.{arith}
use lib.ListN.{length, set, replicate, length-append, length-map}
use lib.Dec.{leb}
use borrow.Author.Tests.{leb-true, leb-false}
use Rattle.std.specs.Prelude.{Some, None}
use Rattle.base_lists.specs.Lists.{keep, least_of}
use Rattle.base_lists.proofs.Bools.{bool_cases, clash, and_left, and_right, and_cases}
use Rattle.base_lists.proofs.Keep.{keep-append, keep_yes, keep_no, least_of_top}
use Rattle.method.specs.declared.Request.{Request}
use Rattle.method.specs.Table.{Day, event_bit, outage_bit}
use Rattle.method.specs.Method.{days_of}
use Rattle.method.specs.Eligible.{complete, eligible, spare, sort_by}
use Rattle.engine_ranking.specs.declared.Ranking.{Ranking}
use Rattle.engine_ranking.specs.Steps.{word, sort_down, padded, pushed, most_words, no_words}
use Rattle.engine_ranking.proofs.Rank.{insert_sorts}
use Rattle.engine_judging.specs.declared.Judged.TheVariants.{Eligible, Spare}
use Rattle.engine_rules.specs.declared.SpareOrder.{SpareOrder}
use Rattle.engine_rules.specs.declared.SpareOrder.TheVariants.{Highest, Latest}
use Rattle.engine_look_back.specs.declared.Found.{Found}
use Rattle.engine_look_back.specs.Steps.{judged, nearest, if_relevant, up_to, eligible_of, spare_of, row_of, spare_row, with_spare, spares_of, needless, oldest_of, Looked, Further, Adds}
use Rattle.engine_look_back.proofs.Padded.{set-padded, padded_full}
use Rattle.engine_look_back.proofs.Days.{nearest_none, nearest_one, nearest_more}
use Rattle.engine_relevant.proofs.Reaching.{least_of_snoc}

-- What a judgement says of a day

-- no day is both
exclusive : (d : Day) → eligible d ≡ true → spare d ≡ false
unfolding eligible spare
exclusive d = go (complete d) (event_bit d.mark) (outage_bit d.mark)
  where
    go : (a b c : Bool) → (a && not b && not c) ≡ true → (a && b && not c) ≡ false
    go true true c e = absurd (false≢true e)
    go true false c e = refl
    go false b c e = refl

-- a spare day has an event
spare_event : (d : Day) → spare d ≡ true → event_bit d.mark ≡ true
unfolding spare
spare_event d = go (complete d) (event_bit d.mark) (outage_bit d.mark)
  where
    go : (a b c : Bool) → (a && b && not c) ≡ true → b ≡ true
    go a true c e = refl
    go true false c e = absurd (false≢true e)
    go false false c e = absurd (false≢true e)

-- a day with an event is not eligible
event_not : (d : Day) → event_bit d.mark ≡ true → eligible d ≡ false
unfolding eligible
event_not d = go (complete d) (event_bit d.mark) (outage_bit d.mark)
  where
    go : (a b c : Bool) → b ≡ true → (a && not b && not c) ≡ false
    go true true c e = refl
    go true false c e = absurd (false≢true e)
    go false b c e = refl

needless_event : (order : SpareOrder) (count mark : ℕ) → needless order count mark ≡ true → event_bit mark ≡ true
needless_event Highest count mark u = absurd (false≢true u)
needless_event Latest count mark u = and_right (leb 10 count) (event_bit mark) u

-- where a spare day is looked at, all before it are known, and it is known too
all_known : (order : SpareOrder) (d : Day) (n : ℕ) {count : ℕ} → spare d ≡ true → needless order count d.mark ≡ false → count ≡ spares_of order n
    → (count ≡ n) × (count + 1 ≡ spares_of order (n + 1))
all_known Highest d n {count} s u c = (c, ap (λ (k : ℕ). k + 1) c)
all_known Latest d n {count} s u c =
    ⊎_elim (λ f. below c (leb-false 10 count f)) (λ f. absurd (clash (spare_event d s) f)) (and_cases (leb 10 count) (event_bit d.mark) u)
  where
    below : count ≡ min 10 n → count < 10 → (count ≡ n) × (count + 1 ≡ min 10 (n + 1))
    below k h = (omega arith, omega arith)

module _ (r : Request) (p : ℕ × Day) where
  pub judged-eligible : {w : ℕ} → judged r p ≡ Some (Eligible w) → (eligible p.1 ≡ true) × (w ≡ word r p)
  unfolding judged
  judged-eligible {w} = go (eligible p.1) (spare p.1) (word r p)
    where
      go : (a b : Bool) (x : ℕ) → cond a (Some (Eligible x)) (cond b (Some (Spare x)) None) ≡ Some (Eligible w) → (a ≡ true) × (w ≡ x)
      go true b x e = (refl, cc)
      go false true x e = let z : ◌≡◌ {A = ℕ} 0 1 = cc in absurd (omega arith)
      go false false x e = let z : ◌≡◌ {A = ℕ} 0 1 = cc in absurd (omega arith)

  pub judged-spare : {w : ℕ} → judged r p ≡ Some (Spare w) → (eligible p.1 ≡ false) × (spare p.1 ≡ true) × (w ≡ word r p)
  unfolding judged
  judged-spare {w} = go (eligible p.1) (spare p.1) (word r p)
    where
      go : (a b : Bool) (x : ℕ) → cond a (Some (Eligible x)) (cond b (Some (Spare x)) None) ≡ Some (Spare w) → (a ≡ false) × (b ≡ true) × (w ≡ x)
      go true b x e = let z : ◌≡◌ {A = ℕ} 0 1 = cc in absurd (omega arith)
      go false true x e = (refl, refl, cc)
      go false false x e = let z : ◌≡◌ {A = ℕ} 0 1 = cc in absurd (omega arith)

  pub judged_neither : judged r p ≡ None → (eligible p.1 ≡ false) × (spare p.1 ≡ false)
  unfolding judged
  judged_neither = go (eligible p.1) (spare p.1) (word r p)
    where
      go : (a b : Bool) (x : ℕ) → cond a (Some (Eligible x)) (cond b (Some (Spare x)) None) ≡ None → (a ≡ false) × (b ≡ false)
      go true b x e = let z : ◌≡◌ {A = ℕ} 0 1 = cc in absurd (omega arith)
      go false true x e = let z : ◌≡◌ {A = ℕ} 0 1 = cc in absurd (omega arith)
      go false false x e = (refl, refl)

-- One day more

module _ {A : Type 0} (test : A → Bool) (l : List A) (x : A) where
  one_kept : test x ≡ true → keep test (l ++ (x ∷ [])) ≡ keep test l ++ (x ∷ [])
  unfolding keep
  one_kept e = rw (keep-append, keep_yes test x [] e)

  one_left : test x ≡ false → keep test (l ++ (x ∷ [])) ≡ keep test l
  unfolding keep
  one_left e = rw (keep-append, keep_no test x [] e) (append-nil (keep test l))

module _ (days : List (ℕ × Day)) (p : ℕ × Day) where
  eligible_more : eligible p.1 ≡ true → eligible_of (days ++ (p ∷ [])) ≡ eligible_of days ++ (p ∷ [])
  unfolding eligible_of
  eligible_more = one_kept (λ (p : ℕ × Day). eligible p.1) days p

  eligible_same : eligible p.1 ≡ false → eligible_of (days ++ (p ∷ [])) ≡ eligible_of days
  unfolding eligible_of
  eligible_same = one_left (λ (p : ℕ × Day). eligible p.1) days p

  spare_more : spare p.1 ≡ true → spare_of (days ++ (p ∷ [])) ≡ spare_of days ++ (p ∷ [])
  unfolding spare_of
  spare_more = one_kept (λ (p : ℕ × Day). spare p.1) days p

  spare_same : spare p.1 ≡ false → spare_of (days ++ (p ∷ [])) ≡ spare_of days
  unfolding spare_of
  spare_same = one_left (λ (p : ℕ × Day). spare p.1) days p

-- the row, the number and the oldest of some days and one more
module _ (r : Request) (l : List (ℕ × Day)) (p : ℕ × Day) where
  row_more : {row next : List ℕ} → row ≡ row_of r l → next ≡ pushed (word r p) row → next ≡ row_of r (l ++ (p ∷ []))
  row_more {row} {next} e n =
      n ∙ ap (λ (k : List ℕ). pushed (word r p) k) e ∙ insert_sorts 10 (word r p) (map (word r) l)
      ∙ ap (λ (k : List ℕ). padded 10 (sort_down k)) (sym (map-append (word r) l (p ∷ [])))

  spare_row_more : (order : SpareOrder) {row next : List ℕ} {count : ℕ} → row ≡ spare_row r order l → count ≡ length l
      → next ≡ with_spare order row count (word r p) → next ≡ spare_row r order (l ++ (p ∷ []))
  spare_row_more Highest e c n = row_more e n
  spare_row_more Latest {row} {next} {count} e c n =
      n ∙ ap (λ (k : List ℕ). set k count (word r p)) e
      ∙ set-padded 10 (map (word r) l) count (word r p) (c ∙ sym (length-map l (word r)))
      ∙ ap (padded 10) (sym (map-append (word r) l (p ∷ [])))

  count_more : {n : ℕ} → n ≡ length l → n + 1 ≡ length (l ++ (p ∷ []))
  count_more e = rw length-append (omega arith)

  -- a day that need not be looked at
  spares_same : (order : SpareOrder) {row : List ℕ} {count : ℕ} → needless order count p.1.mark ≡ true → row ≡ spare_row r order l → count ≡ spares_of order (length l)
      → (row ≡ spare_row r order (l ++ (p ∷ []))) × (count ≡ spares_of order (length (l ++ (p ∷ []))))
  spares_same Highest u e c = absurd (false≢true u)
  spares_same Latest {row} {count} u e c =
      let ten = leb-true 10 count (and_left (leb 10 count) (event_bit p.1.mark) u) in (
        e ∙ padded_full 10 (map (word r) l) (word r p) (omega (arith, ten, c, length-map l (word r))) ∙ ap (padded 10) (sym (map-append (word r) l (p ∷ []))),
        rw length-append (omega (arith, ten, c)),
      )

  oldest_more : (back : ℕ) {o : ℕ} → p.0 ≡ r.event - back → back ≤ r.event → o ≡ oldest_of r l → o ≤ back → back ≡ oldest_of r (l ++ (p ∷ []))
  oldest_more back {o} e h f g =
      rw (map-append (λ (q : ℕ × Day). q.0) l (p ∷ []), least_of_snoc r.event (days_of l) p.0) (omega (arith, least_of_top r.event (days_of l)))

module _ {r : Request} {order : SpareOrder} {days : List (ℕ × Day)} {found : Found} (q : Looked r order days found) where
  pub looked_none : Looked r order (days ++ []) found
  looked_none = rw (append-nil days) q

  module _ (p : ℕ × Day) where
    pub looked_eligible : (back : ℕ) {row : Ranking} → eligible p.1 ≡ true → p.0 ≡ r.event - back → back ≤ r.event → found.oldest ≤ back
        → row.words ≡ pushed (word r p) found.eligible.words → row.count ≡ found.eligible.count + 1
        → Looked r order (days ++ (p ∷ [])) (record { eligible = row; oldest = back; spare = found.spare })
    looked_eligible back {row} e d h o n m =
        let x = eligible_more days p e in
        let y = spare_same days p (exclusive p.1 e) in
        record {
          row = rw x (row_more r (eligible_of days) p q.row n);
          count = rw (x, m) (count_more r (eligible_of days) p q.count);
          oldest = rw x (oldest_more r (eligible_of days) p back d h q.oldest o);
          sparing = rw y q.sparing;
          spares = rw y q.spares;
        }

    pub looked_spare : {row : Ranking} → needless order found.spare.count p.1.mark ≡ false → eligible p.1 ≡ false → spare p.1 ≡ true
        → row.words ≡ with_spare order found.spare.words found.spare.count (word r p) → row.count ≡ found.spare.count + 1
        → Looked r order (days ++ (p ∷ [])) (record { eligible = found.eligible; oldest = found.oldest; spare = row })
    looked_spare {row} u e s n m =
        let x = eligible_same days p e in
        let y = spare_more days p s in
        let known = all_known order p.1 (length (spare_of days)) s u q.spares in
        record {
          row = rw x q.row;
          count = rw x q.count;
          oldest = rw x q.oldest;
          sparing = rw y (spare_row_more r (spare_of days) p order q.sparing known.0 n);
          spares = rw (y, length-append, m) known.1;
        }

    pub looked_neither : eligible p.1 ≡ false → spare p.1 ≡ false → Looked r order (days ++ (p ∷ [])) found
    looked_neither e s =
        let x = eligible_same days p e in
        let y = spare_same days p s in
        record { row = rw x q.row; count = rw x q.count; oldest = rw x q.oldest; sparing = rw y q.sparing; spares = rw y q.spares }

    pub looked_needless : needless order found.spare.count p.1.mark ≡ true → Looked r order (days ++ (p ∷ [])) found
    looked_needless u = ⊎_elim one_more (looked_neither no) (bool_cases (spare p.1))
      where
        no : eligible p.1 ≡ false
        no = event_not p.1 (needless_event order found.spare.count p.1.mark u)

        one_more : spare p.1 ≡ true → Looked r order (days ++ (p ∷ [])) found
        one_more s =
            let x = eligible_same days p no in
            let y = spare_more days p s in
            let z = spares_same r (spare_of days) p order u q.sparing q.spares in
            record { row = rw x q.row; count = rw x q.count; oldest = rw x q.oldest; sparing = rw y z.0; spares = rw y z.1 }

-- One day before the event looked at

module _ (test : ℕ → Bool) (p : ℕ × Day) where
  some : test p.0 ≡ true → if_relevant test p ≡ p ∷ []
  unfolding if_relevant
  some e = rw e

  none : test p.0 ≡ false → if_relevant test p ≡ []
  unfolding if_relevant
  none e = rw e

module _ (test : ℕ → Bool) (p : ℕ × Day) {r : Request} {order : SpareOrder} {found : Found} {back : ℕ} (f : Further r back found) (here : p.0 ≡ r.event - back) where
  same : {more : List (ℕ × Day)} → ((days : List (ℕ × Day)) → Looked r order days found → Looked r order (days ++ more) found) → Adds r order back more found found
  same t = record { then = t; oldest = f.oldest; count = omega arith; spares = omega arith }

  pub adds_none : test p.0 ≡ false → Adds r order back (if_relevant test p) found found
  adds_none e = rw (none test p e) (same (λ days q. looked_none q))

  pub adds_needless : needless order found.spare.count p.1.mark ≡ true → Adds r order back (if_relevant test p) found found
  adds_needless u = ⊎_elim (λ e. rw (some test p e) (same (λ days q. looked_needless q p u))) adds_none (bool_cases (test p.0))

  module _ (e : test p.0 ≡ true) where
    pub adds_eligible : {w : ℕ} {row : Ranking} → judged r p ≡ Some (Eligible w) → row.words ≡ pushed w found.eligible.words
        → row.count ≡ min (found.eligible.count + 1) most_words
        → Adds r order back (if_relevant test p) found
        (record { eligible = row; oldest = back; spare = found.spare })
    adds_eligible {w} {row} j n m =
        let k = judged-eligible r p j in
        let one : row.count ≡ found.eligible.count + 1 = omega (arith, m, f.count, f.most) in
        record {
          then = λ days q. rw (some test p e) (looked_eligible q p back k.0 here f.within f.oldest (rw k.1 at n) one);
          oldest = omega arith;
          count = omega arith;
          spares = omega arith;
        }

    pub adds_spare : {w : ℕ} {row : Ranking} → needless order found.spare.count p.1.mark ≡ false → judged r p ≡ Some (Spare w)
        → row.words ≡ with_spare order found.spare.words found.spare.count w → row.count ≡ min (found.spare.count + 1) most_words
        → Adds r order back (if_relevant test p) found
        (record { eligible = found.eligible; oldest = found.oldest; spare = row })
    adds_spare {w} {row} u j n m =
        let k = judged-spare r p j in
        let one : row.count ≡ found.spare.count + 1 = omega (arith, m, f.spares, f.most) in
        record {
          then = λ days q. rw (some test p e) (looked_spare q p u k.0 k.1 (rw k.2 at n) one);
          oldest = f.oldest;
          count = omega arith;
          spares = omega arith;
        }

    pub adds_neither : judged r p ≡ None → Adds r order back (if_relevant test p) found found
    adds_neither j = let k = judged_neither r p j in rw (some test p e) (same (λ days q. looked_neither q p k.0 k.1))

-- The end of the look back

eligible_then : (days more : List (ℕ × Day)) → eligible_of (days ++ more) ≡ eligible_of days ++ eligible_of more
unfolding eligible_of
eligible_then = keep-append (λ (p : ℕ × Day). eligible p.1)

up_to_none : (days : List (ℕ × Day)) → up_to 0 days ≡ []
unfolding up_to
up_to_none [] = refl
up_to_none (p ∷ days) = refl

up_to_end : (n : ℕ) → up_to n [] ≡ []
unfolding up_to
up_to_end n = refl

-- one day more, where the window is not full
module _ (p : ℕ × Day) (more : List (ℕ × Day)) where
  up_to_one : (n : ℕ) → 0 < n → up_to n (p ∷ more) ≡ p ∷ up_to (n - length (eligible_of (p ∷ []))) more
  unfolding up_to eligible_of keep
  up_to_one zero h = absurd (omega arith)
  up_to_one (suc n) h = go (eligible p.1)
    where
      go : (b : Bool) → p ∷ cond b (up_to n more) (up_to (suc n) more) ≡ p ∷ up_to (suc n - length (cond b (p ∷ []) [])) more
      go true = let z : n ≡ suc n - 1 = omega arith in ap (λ (k : ℕ). p ∷ up_to k more) z
      go false = let z : suc n ≡ suc n - 0 = omega arith in ap (λ (k : ℕ). p ∷ up_to k more) z

  up_to_same : (n : ℕ) → up_to n more ≡ up_to (n - length (eligible_of [])) more
  unfolding eligible_of keep
  up_to_same n = let z : n ≡ n - 0 = omega arith in ap (λ (k : ℕ). up_to k more) z

  up_to_next : (test : ℕ → Bool) (n : ℕ) → 0 < n
      → up_to n (if_relevant test p ++ more) ≡ if_relevant test p ++ up_to (n - length (eligible_of (if_relevant test p))) more
  up_to_next test n h = ⊎_elim yes no (bool_cases (test p.0))
    where
      yes : test p.0 ≡ true → up_to n (if_relevant test p ++ more) ≡ if_relevant test p ++ up_to (n - length (eligible_of (if_relevant test p))) more
      yes e = rw (some test p e) (up_to_one n h)

      no : test p.0 ≡ false → up_to n (if_relevant test p ++ more) ≡ if_relevant test p ++ up_to (n - length (eligible_of (if_relevant test p))) more
      no e = rw (none test p e) (up_to_same n)

-- `back` days of the `held` are looked at, and the window is not more than full
pub record Back (test : ℕ → Bool) (r : Request) (day : ℕ → Day) (most : ℕ) (order : SpareOrder) (held back : ℕ) (found : Found) : Type 0 where
  pub within : back ≤ held
  pub looked : Looked r order (nearest test r day back) found
  pub oldest : found.oldest ≤ back
  pub count : found.eligible.count ≤ back
  pub spares : found.spare.count ≤ back
  pub filled : found.eligible.count ≤ most
  pub ahead : (more : List (ℕ × Day)) → up_to most (nearest test r day back ++ more) ≡ nearest test r day back ++ up_to (most - found.eligible.count) more

module _ (test : ℕ → Bool) (r : Request) (day : ℕ → Day) (most : ℕ) (order : SpareOrder) (held : ℕ) where
  pub back_start : Back test r day most order held 0
      (record { eligible = no_words; oldest = 0; spare = no_words })
  unfolding eligible_of spare_of keep least_of sort_by
  back_start =
      let e = nearest_none test r day in
      record {
        within = omega arith;
        looked = rw e (record { row = refl; count = refl; oldest = omega arith; sparing = (no_spare order).0; spares = (no_spare order).1 });
        oldest = omega arith;
        count = omega arith;
        spares = omega arith;
        filled = omega arith;
        ahead = λ more. let z : most ≡ most - 0 = omega arith in rw e (ap (λ (k : ℕ). up_to k more) z);
      }
    where
      no_spare : (o : SpareOrder) → (replicate 10 0 ≡ spare_row r o []) × (0 ≡ spares_of o 0)
      no_spare Highest = (refl, refl)
      no_spare Latest = (refl, refl)

module _ {test : ℕ → Bool} {r : Request} {day : ℕ → Day} {most : ℕ} {order : SpareOrder} {held back : ℕ} {found : Found} (b : Back test r day most order held back found) where
  pub back_further : {far : ℕ} → far ≡ back + 1 → far ≤ held → held ≤ 45 → held ≤ r.event → Further r far found
  back_further is h m e =
      record {
        some = omega arith;
        most = omega arith;
        within = omega arith;
        oldest = omega (arith, b.oldest);
        count = omega (arith, b.count);
        spares = omega (arith, b.spares);
      }

  one_further : {next : Found} → back < held → held ≤ r.event → (found.eligible.count ≡ most → ⊥)
      → Adds r order (back + 1) (if_relevant test (r.event - (back + 1), day (r.event - (back + 1)))) found next
      → Back test r day most order held (back + 1) next
  one_further {next} h e n a =
      let one = nearest_one test r day back (omega arith) in
      let then = a.then (nearest test r day back) b.looked in
      record {
        within = omega arith;
        looked = rw one then;
        oldest = a.oldest;
        count = omega (arith, a.count, b.count);
        spares = omega (arith, a.spares, b.spares);
        filled = omega (arith, a.count, b.filled, n);
        ahead = λ more. rw one (further then more);
      }
    where
      p : ℕ × Day
      p = (r.event - (back + 1), day (r.event - (back + 1)))

      left : Looked r order (nearest test r day back ++ if_relevant test p) next
          → most - next.eligible.count ≡ most - found.eligible.count - length (eligible_of (if_relevant test p))
      left then =
          let size : next.eligible.count ≡ length (eligible_of (nearest test r day back)) + length (eligible_of (if_relevant test p)) =
          then.count ∙ ap length (eligible_then (nearest test r day back) (if_relevant test p)) ∙ length-append (eligible_of (nearest test r day back)) (eligible_of (if_relevant test p)) in
          omega (arith, size, b.looked.count)

      further : Looked r order (nearest test r day back ++ if_relevant test p) next → (more : List (ℕ × Day))
          → up_to most ((nearest test r day back ++ if_relevant test p) ++ more) ≡ (nearest test r day back ++ if_relevant test p) ++ up_to (most - next.eligible.count) more
      further then more =
          rw (append_assoc (nearest test r day back) (if_relevant test p) more, append_assoc (nearest test r day back) (if_relevant test p) (up_to (most - next.eligible.count) more), left then)
          (b.ahead (if_relevant test p ++ more)
          ∙ ap (λ (l : List (ℕ × Day)). nearest test r day back ++ l) (up_to_next p more test (most - found.eligible.count) (omega (arith, b.filled, n))))

  pub back_more : {far : ℕ} {next : Found} → far ≡ back + 1 → far ≤ held → held ≤ r.event → (found.eligible.count ≡ most → ⊥)
      → Adds r order far (if_relevant test (r.event - far, day (r.event - far))) found next → Back test r day most order held far next
  back_more {far} {next} is h e n a = rw is (one_further (omega arith) e n (rw is at a))

  -- the window is full
  pub back_full : found.eligible.count ≡ most → Looked r order (up_to most (nearest test r day held)) found
  back_full h =
      let m = nearest_more test r day back held b.within in
      let z : most - found.eligible.count ≡ 0 = omega arith in
      let e : up_to most (nearest test r day held) ≡ nearest test r day back =
      ap (up_to most) m.1 ∙ b.ahead m.0 ∙ rw (z, up_to_none m.0) (append-nil (nearest test r day back)) in
      rw e b.looked

  -- all days are looked at
  pub back_end : held ≤ back → Looked r order (up_to most (nearest test r day held)) found
  back_end h =
      let k : held ≡ back = omega (arith, b.within) in
      let e : up_to most (nearest test r day held) ≡ nearest test r day back =
      rw k (ap (up_to most) (sym (append-nil (nearest test r day back))) ∙ b.ahead [] ∙ rw (up_to_end (most - found.eligible.count)) (append-nil (nearest test r day back))) in
      rw e b.looked
