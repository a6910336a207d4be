-- The laws of ranking. A row of ten falling words, into which words are put one by one as they come, holds at every moment the ten highest of
-- all that came, and the words of the days before an event rank as 01 ranks the days.
use Prim.Native.Nat.{ℕ, zero, suc, ◌+◌, ◌-◌, ◌%◌, ◌<◌, ◌≤◌}
use mathlib.Core.Path.{◌≡◌, refl, ap, ap₂, sym, ◌∙◌}
use mathlib.Core.Bool.{Bool, true, ◌&&◌}
use mathlib.Core.List.{List, [], ◌∷◌, ◌++◌, map, append-nil, map-append}
use mathlib.Core.Logic.{⊎_elim}
use native.Mathlib.Omega.{arith}
use lib.ListN.{take, drop, length, replicate, length-take, length-drop, length-append, length-replicate, length-map}
use lib.Seq.{append_snoc, take-take, take-append-le, drop-append-le}
use lib.Dec.{leb, ltb}
use borrow.Author.Tests.{leb-true, ltb-true, le-leb}
use Rattle.base_lists.specs.Lists.{all}
use Rattle.method.specs.declared.Request.{Request}
use Rattle.method.specs.Table.{Day}
use Rattle.method.specs.Method.{days_of}
use Rattle.method.specs.Eligible.{event_sum, higher, sort_by}
use Rattle.engine_ranking.specs.Steps.{word, above, insert_down, sort_down, padded, pushed, insert_all}
use Rattle.base_lists.proofs.All.{all-append, all-replicate, all-take, all-drop}
use Rattle.base_lists.proofs.Bools.{both, lt-or-le}
use Rattle.base_lists.proofs.Maps.{map-drop, map-take}
use Rattle.base_lists.proofs.Parts.{take-drop-take}
use Rattle.method_laws.proofs.Sort.{length_sorted, all_inserted, all_sorted}
use Rattle.engine_ranking.proofs.Sorting.{map_sorted}
use Rattle.engine_ranking.proofs.Insertion.{into_none, goes_here, goes_later, smaller_first, none_above, before_noughts}
use Rattle.engine_ranking.proofs.Carry.{keeps_hand, keeps_own}
use Rattle.engine_ranking.proofs.OneByOne.{insert_none, insert_next}
use Rattle.engine_ranking.proofs.Numbers.{sums_then_nearness, later_is_nearer, day_back}

-- The order in which words come does not matter

pub insertions_commute : (x y : ℕ) (row : List ℕ) → insert_down x (insert_down y row) ≡ insert_down y (insert_down x row)
insertions_commute x y row =
    ⊎_elim (smaller_first x y row)
    (λ h. ⊎_elim (λ o. sym (smaller_first y x row o)) (λ o. let e : x ≡ y = omega arith in rw e) (lt-or-le x y))
    (lt-or-le y x)

pub sort_one_more : (l : List ℕ) (x : ℕ) → sort_down (l ++ (x ∷ [])) ≡ insert_down x (sort_down l)
unfolding sort_by
sort_one_more [] x = refl
sort_one_more (y ∷ l) x = ap (insert_down y) (sort_one_more l x) ∙ insertions_commute y x (sort_down l)

-- each word is at least as high as all that follow it
unfoldable pub falling : List ℕ → Bool
falling [] = true
falling (x ∷ xs) = all (λ y. leb y x) xs && falling xs

insert_falls : (x : ℕ) (row : List ℕ) → falling row ≡ true → falling (insert_down x row) ≡ true
unfolding falling all
insert_falls x [] t = rw (into_none x)
insert_falls x (a ∷ l) t =
    let ta = both (all (λ y. leb y a) l) (falling l) t in
    ⊎_elim
    (λ (p : a < x). let o : a ≤ x = omega arith in rw (goes_here x a l p, le-leb a x o, none_above a x l o ta.0, t))
    (λ (p : x ≤ a).
    rw (goes_later x a l p, all_inserted above (λ y. leb y a) x l, le-leb x a p, ta.0, insert_falls x l ta.1))
    (lt-or-le a x)

pub sorted_falls : (l : List ℕ) → falling (sort_down l) ≡ true
unfolding falling sort_by
sorted_falls [] = refl
sorted_falls (x ∷ l) = insert_falls x (sort_down l) (sorted_falls l)

-- A word pushed into a falling row

high_pushed : (x : ℕ) (row : List ℕ) → falling (x ∷ row) ≡ true → pushed x row ≡ take (length row) (x ∷ row)
unfolding falling all pushed
high_pushed x [] t = refl
high_pushed x (y ∷ row) t =
    let tx = both (all (λ z. leb z x) (y ∷ row)) (falling (y ∷ row)) t in
    let o : y ≤ x = leb-true y x (both (leb y x) (all (λ z. leb z x) row) tx.0).0 in
    ⊎_elim
    (λ (p : y < x). keeps_hand x y row p ∙ ap (λ (l : List ℕ). x ∷ l) (high_pushed y row tx.1))
    (λ (p : x ≤ y). let e : y ≡ x = omega arith in keeps_own x y row p ∙ rw e (ap (λ (l : List ℕ). x ∷ l) (rw e at (high_pushed y row tx.1))))
    (lt-or-le y x)

pub falling-pushed : (x : ℕ) (row : List ℕ) → falling row ≡ true → pushed x row ≡ take (length row) (insert_down x row)
unfolding falling pushed
falling-pushed x [] t = refl
falling-pushed x (y ∷ row) t =
    ⊎_elim
    (λ (p : y < x). keeps_hand x y row p ∙ rw (goes_here x y row p) (ap (λ (l : List ℕ). x ∷ l) (high_pushed y row t)))
    (λ (p : x ≤ y). keeps_own x y row p
    ∙ rw (goes_later x y row p) (ap (λ (l : List ℕ). y ∷ l) (falling-pushed x row (both (all (λ z. leb z y) row) (falling row) t).1)))
    (lt-or-le y x)

pub nought_pushed : (row : List ℕ) → pushed 0 row ≡ row
unfolding pushed
nought_pushed [] = refl
nought_pushed (x ∷ row) = keeps_own 0 x row (omega arith) ∙ ap (λ (l : List ℕ). x ∷ l) (nought_pushed row)

falling_taken : (n : ℕ) (l : List ℕ) → falling l ≡ true → falling (take n l) ≡ true
unfolding falling
falling_taken zero l t = refl
falling_taken (suc n) [] t = refl
falling_taken (suc n) (x ∷ l) t =
    let tx = both (all (λ y. leb y x) l) (falling l) t in
    rw (all-take (λ y. leb y x) n l tx.0) (falling_taken n l tx.1)

falling_noughts : (m : ℕ) (l : List ℕ) → falling l ≡ true → falling (l ++ replicate m 0) ≡ true
unfolding falling
falling_noughts zero [] t = refl
falling_noughts (suc m) [] t = rw (all-replicate (λ y. leb y 0) m 0 refl) (falling_noughts m [] t)
falling_noughts m (x ∷ l) t =
    let tx = both (all (λ y. leb y x) l) (falling l) t in
    rw (all-append (λ y. leb y x) l (replicate m 0), tx.0, all-replicate (λ y. leb y x) m 0 (le-leb 0 x (omega arith))) (falling_noughts m l tx.1)

-- The first `n` of a row are enough to know the first `n` of the row with one more

pub keep_top : (n x : ℕ) (row : List ℕ) → take n (insert_down x (take n row)) ≡ take n (insert_down x row)
keep_top zero x row = refl
keep_top (suc n) x [] = refl
keep_top (suc n) x (a ∷ l) =
    ⊎_elim
    (λ (p : a < x). simp goes_here (ap (λ (k : List ℕ). x ∷ k) (cut n a l)))
    (λ (p : x ≤ a). simp goes_later (ap (λ (k : List ℕ). a ∷ k) (keep_top n x l)))
    (lt-or-le a x)
  where
    cut : (m b : ℕ) (k : List ℕ) → take m (b ∷ take m k) ≡ take m (b ∷ k)
    cut zero b k = refl
    cut (suc m) b k = let o : m ≤ suc m = omega arith in rw (take-take m (suc m) k o)

pub length-padded : (n : ℕ) (l : List ℕ) → length (padded n l) ≡ n
length-padded n l = simp (length-take, length-append, length-replicate) (omega arith)

pub take-padded : (k n : ℕ) (l : List ℕ) → k ≤ length l → k ≤ n → take k (padded n l) ≡ take k l
take-padded k n l h o = rw (take-take k n (l ++ replicate n 0) o, take-append-le k l (replicate n 0) h)

-- a part that ends before the noughts
pub part_padded : (p k n : ℕ) (l : List ℕ) → p + k ≤ length l → p + k ≤ n → take k (drop p (padded n l)) ≡ take k (drop p l)
part_padded p k n l h o =
    take-drop-take k p n (l ++ replicate n 0) o
    ∙ rw (drop-append-le p l (replicate n 0) (omega arith)) (take-append-le k (drop p l) (replicate n 0) (rw length-drop (omega arith)))

pub insert_padded : (n x : ℕ) (l : List ℕ) → take n (insert_down x (padded n l)) ≡ padded n (insert_down x l)
insert_padded n x l = keep_top n x (l ++ replicate n 0) ∙ ap (take n) (before_noughts n x l)

pub insert_sorts : (n x : ℕ) (l : List ℕ) → pushed x (padded n (sort_down l)) ≡ padded n (sort_down (l ++ (x ∷ [])))
insert_sorts n x l =
    falling-pushed x (padded n (sort_down l)) (falling_taken n (sort_down l ++ replicate n 0) (falling_noughts n (sort_down l) (sorted_falls l)))
    ∙ rw (length-padded n (sort_down l)) (insert_padded n x (sort_down l)) ∙ ap (padded n) (sym (sort_one_more l x))

pub insert_all_sorts : (xs l : List ℕ) → insert_all xs (padded 10 (sort_down l)) ≡ padded 10 (sort_down (l ++ xs))
insert_all_sorts [] l = insert_none (padded 10 (sort_down l)) ∙ ap (λ (k : List ℕ). padded 10 (sort_down k)) (sym (append-nil l))
insert_all_sorts (x ∷ xs) l =
    insert_next x xs (padded 10 (sort_down l)) ∙ ap (insert_all xs) (insert_sorts 10 x l) ∙ insert_all_sorts xs (l ++ (x ∷ []))
    ∙ ap (λ (k : List ℕ). padded 10 (sort_down k)) (append_snoc l x xs)

-- Words rank days

-- the day lies from D-45 to D-1
abbrev pub looked_back : Request → ℕ × Day → Bool
looked_back r p = leb r.event (p.0 + 45) && ltb p.0 r.event

-- the day of a word
abbrev pub day_of_word : Request → ℕ → ℕ
day_of_word r w = r.event - (46 - w % 64)

module _ (r : Request) where
  from_45 : (p : ℕ × Day) → looked_back r p ≡ true → r.event ≤ p.0 + 45
  from_45 p h = leb-true r.event (p.0 + 45) (both (leb r.event (p.0 + 45)) (ltb p.0 r.event) h).0

  before_event : (p : ℕ × Day) → looked_back r p ≡ true → p.0 < r.event
  before_event p h = ltb-true p.0 r.event (both (leb r.event (p.0 + 45)) (ltb p.0 r.event) h).1

  pub higher-above : (a b : ℕ × Day) → looked_back r a ≡ true → looked_back r b ≡ true → higher r a b ≡ above (word r a) (word r b)
  unfolding higher word
  higher-above a b ha hb =
      let pa = before_event a ha in
      let pb = before_event b hb in
      rw (later_is_nearer r.event b.0 (from_45 b hb) a.0 (from_45 a ha))
      (sums_then_nearness (event_sum r a.1) (event_sum r b.1) (a.0 + 46 - r.event) (b.0 + 46 - r.event) (omega arith) (omega arith))

  pub words_sorted : (l : List (ℕ × Day)) → all (looked_back r) l ≡ true → map (word r) (sort_by (higher r) l) ≡ sort_down (map (word r) l)
  words_sorted = map_sorted (higher r) above (looked_back r) (word r) higher-above

  pub days_back : (l : List (ℕ × Day)) → all (looked_back r) l ≡ true → map (day_of_word r) (map (word r) l) ≡ days_of l
  unfolding all word
  days_back [] h = refl
  days_back (p ∷ l) h =
      ap₂ {B = List ℕ} {C = List ℕ} ◌∷◌
      (day_back r.event p.0 (from_45 p (both (looked_back r p) (all (looked_back r) l) h).0) (event_sum r p.1)
      (before_event p (both (looked_back r p) (all (looked_back r) l) h).0))
      (days_back l (both (looked_back r p) (all (looked_back r) l) h).1)

  pub first_words : (k : ℕ) (l : List (ℕ × Day)) → all (looked_back r) l ≡ true
      → take k (sort_down (map (word r) l)) ≡ map (word r) (take k (sort_by (higher r) l))
  first_words k l h = ap (take k) (sym (words_sorted l h)) ∙ sym (map-take (word r) k (sort_by (higher r) l))

  -- the ranks from `p` on, in the row of `n` words, are the days that 01 ranks so
  pub ranks_of_row : (p k n : ℕ) (l : List (ℕ × Day)) → all (looked_back r) l ≡ true → p + k ≤ length l → p + k ≤ n
      → map (day_of_word r) (take k (drop p (padded n (sort_down (map (word r) l))))) ≡ days_of (take k (drop p (sort_by (higher r) l)))
  ranks_of_row p k n l h o t =
      ap (map (day_of_word r))
      (part_padded p k n (sort_down (map (word r) l)) (omega (arith, length_sorted above (map (word r) l), length-map l (word r))) t
      ∙ ap (λ (w : List ℕ). take k (drop p w)) (sym (words_sorted l h)) ∙ ap (take k) (sym (map-drop (word r) p (sort_by (higher r) l)))
      ∙ sym (map-take (word r) k (drop p (sort_by (higher r) l))))
      ∙ days_back (take k (drop p (sort_by (higher r) l))) (all-take (looked_back r) k (drop p (sort_by (higher r) l)) dropped)
    where
      dropped : all (looked_back r) (drop p (sort_by (higher r) l)) ≡ true
      dropped = all-drop (looked_back r) p (sort_by (higher r) l) (all_sorted (higher r) (looked_back r) l ∙ h)

  -- the row of some days, with the words of more put in, is the row of all
  pub row_with : (days more : List (ℕ × Day))
      → insert_all (map (word r) more) (padded 10 (sort_down (map (word r) days))) ≡ padded 10 (sort_down (map (word r) (days ++ more)))
  row_with days more =
      insert_all_sorts (map (word r) more) (map (word r) days)
      ∙ ap (λ (l : List ℕ). padded 10 (sort_down l)) (sym (map-append (word r) days more))
