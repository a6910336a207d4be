-- Records put first into a buffer: what is written and what is left to write are the record (`Filling`).
use Prim.Native.Nat.{ℕ, ◌+◌, ◌-◌, ◌*◌, ◌≤◌, ◌<◌}
use mathlib.Core.Path.{◌≡◌, refl, sym, ap, ◌∙◌}
use mathlib.Core.Bool.{Bool, true, false, cond}
use mathlib.Core.List.{List, [], ◌∷◌, ◌++◌, append-nil}
use native.Mathlib.Omega.{arith}
use borrow.Author.Tests.{le-leb, leb-true}
use lib.Dec.{leb}
use lib.ListN.{length, take, drop, set, length-set, length-append, length-drop, drop_of_length-le}
use borrow.Rule.Slice.PartMut.{put_mid, mid_of, mid_len}
use Rattle.base_lists.specs.Ascii.{ascii}
use Rattle.base_bytes.specs.Bytes.{bytes, reading_bytes}
use Rattle.base_bytes.specs.PutFirst.{put_first}
use Rattle.base_bytes.proofs.Told.{tells_whole, tells_none}
use Rattle.base_bytes.proofs.Bytes.{reading_length, le_two}
use Rattle.std.specs.Int.{w32, to_le_bytes}
use Rattle.base_bytes.proofs.Filling.{Filling, filling_none, filling_one, filling_part, filled}
use Rattle.file_record.specs.Layout.{pf_record, mv_record, dy_record, Event, ev_record}

-- values put into a buffer of their length are all that it holds
pub put_exactly : (values buffer : List ℕ) → length buffer ≡ length values → put_first values buffer ≡ values
unfolding put_first
put_exactly values buffer e =
    let fits : length values ≤ length buffer = omega arith in
    let none : length buffer ≤ length values = omega arith in
    rw (le-leb (length values) (length buffer) fits, drop_of_length-le buffer none) (append-nil values)

-- a mark and a number of two bytes take the place of the first four
pub head_is : (out : List ℕ) (m n number : ℕ) {part : List ℕ} → 4 ≤ length out → part ≡ take 2 (to_le_bytes w32 number)
    → put_mid 2 2 (set (set out 0 m) 1 n) part ≡ (m ∷ n ∷ bytes 2 number) ++ drop 4 out
head_is [] m n number h p = absurd (omega arith)
head_is (a ∷ []) m n number h p = absurd (omega arith)
head_is (a ∷ b ∷ []) m n number h p = absurd (omega arith)
head_is (a ∷ b ∷ c ∷ []) m n number h p = absurd (omega arith)
head_is (a ∷ b ∷ c ∷ d ∷ l) m n number h p = rw (p ∙ le_two number) (unfold bytes in refl)

-- the head of a record is put, and the rest of it is left
head_put : (before head left : List ℕ) {now : List ℕ} → length head ≡ 4 → 4 ≤ length before → now ≡ head ++ drop 4 before
    → Filling before (head ++ left) now left 4
head_put before head left long h e = rw e (filling_part (filling_none before (head ++ left)) head left 4 (omega arith) h long refl)

-- numbers that are the rest of a record are put
module _ {before whole now : List ℕ} (numbers : List ℕ) {at end : ℕ} (q : Filling before whole now (reading_bytes numbers) at) where
  numbers_last : {part : List ℕ} → end ≡ at + 4 * length numbers → end ≤ length now → length whole ≡ end
      → part ≡ put_first (reading_bytes numbers) (mid_of at (end - at) now) → put_mid at (end - at) now part ≡ put_first whole before
  numbers_last {part} e room long p =
      let size = reading_length numbers in
      let wide : length (mid_of at (end - at) now) ≡ length (reading_bytes numbers) = mid_len at end now room ∙ omega arith in
      let is : part ≡ reading_bytes numbers = p ∙ put_exactly (reading_bytes numbers) (mid_of at (end - at) now) wide in
      let fill = filling_part q part [] end (omega arith) room (ap length is ∙ omega arith) (rw is (sym (append-nil (reading_bytes numbers)))) in
      tells_whole whole before (omega (arith, q.long)) (rw long (filled fill refl))

-- a buffer stays as long as it is
pub put-length : (values buffer : List ℕ) → length (put_first values buffer) ≡ length buffer
unfolding put_first
put-length values buffer = go (leb (length values) (length buffer)) refl
  where
    go : (b : Bool) → leb (length values) (length buffer) ≡ b → length (cond b (values ++ drop (length values) buffer) buffer) ≡ length buffer
    go true e =
        let h = leb-true (length values) (length buffer) e in
        omega (arith, length-append values (drop (length values) buffer), length-drop (length values) buffer)
    go false e = refl

-- a record that there is no room for
pub opening_kept : (before : List ℕ) (participation portfolio : ℕ) → length before < 8 → before ≡ put_first (pf_record participation portfolio) before
unfolding pf_record bytes
opening_kept before participation portfolio h = tells_none (pf_record participation portfolio) before h

pub move_kept : (before : List ℕ) (old new : ℕ) → length before < 6 → before ≡ put_first (mv_record old new) before
unfolding mv_record bytes
move_kept before old new h = tells_none (mv_record old new) before h

pub day_kept : (before : List ℕ) (day mark : ℕ) (readings : List ℕ) → length before < 6 + 4 * length readings
    → before ≡ put_first (dy_record day mark readings) before
unfolding dy_record bytes
day_kept before day mark readings h = tells_none (dy_record day mark readings) before (omega (arith, reading_length readings))

pub event_kept : (before : List ℕ) (v : Event) → length before < 8 → before ≡ put_first (ev_record v) before
unfolding ev_record bytes
event_kept before v h = tells_none (ev_record v) before h

-- a PF
module _ (before now : List ℕ) (participation portfolio : ℕ) (h : 8 ≤ length before) (head : now ≡ (ascii "PF" ++ bytes 2 participation) ++ drop 4 before) where
  pub opening_put : {part : List ℕ} → part ≡ put_first (reading_bytes (portfolio ∷ [])) (mid_of 4 4 now)
      → put_mid 4 4 now part ≡ put_first (pf_record participation portfolio) before
  unfolding pf_record bytes reading_bytes
  opening_put {part} p =
      let room : 8 ≤ length now = omega (arith, ap length head, length-drop 4 before) in
      let fill = head_put before (ascii "PF" ++ bytes 2 participation) (bytes 4 portfolio) refl (omega arith) head in
      numbers_last (portfolio ∷ []) {end = 8} fill refl room refl p

-- an MV
module _ (before now : List ℕ) (old new : ℕ) (h : 6 ≤ length before) (head : now ≡ (ascii "MV" ++ bytes 2 old) ++ drop 4 before) where
  pub move_put : {part : List ℕ} → part ≡ take 2 (to_le_bytes w32 new) → put_mid 4 2 now part ≡ put_first (mv_record old new) before
  unfolding mv_record bytes
  move_put {part} p =
      let is : part ≡ bytes 2 new = p ∙ le_two new in
      let room : 6 ≤ length now = omega (arith, ap length head, length-drop 4 before) in
      let fill = head_put before (ascii "MV" ++ bytes 2 old) (bytes 2 new) refl (omega arith) head in
      let whole = filling_part fill part [] 6 (omega arith) room (ap length is) (rw is refl) in
      tells_whole (mv_record old new) before h (filled whole refl)

-- a DY
module _ (before now : List ℕ) (day mark : ℕ) (readings : List ℕ) (h : 6 + 4 * length readings ≤ length before)
    (head : now ≡ (ascii "DY" ++ bytes 2 day) ++ drop 4 before) where
  pub day_put : {part : List ℕ} {end : ℕ} → end ≡ 6 + 4 * length readings → part ≡ put_first (reading_bytes readings) (mid_of 6 (end - 6) (set (set now 4 mark) 5 0))
      → put_mid 6 (end - 6) (set (set now 4 mark) 5 0) part ≡ put_first (dy_record day mark readings) before
  unfolding dy_record bytes
  day_put {part} {end} e p =
      let long : length now ≡ length before = omega (arith, ap length head, length-drop 4 before) in
      let fill = head_put before (ascii "DY" ++ bytes 2 day) (mark ∷ 0 ∷ reading_bytes readings) refl (omega arith) head in
      let marked = filling_one fill mark (0 ∷ reading_bytes readings) (omega arith) refl in
      let blank = filling_one marked 0 (reading_bytes readings) (rw length-set (omega arith)) refl in
      numbers_last readings {end = end} blank e (rw (length-set, length-set) (omega arith)) (omega (arith, reading_length readings)) p

-- an EV
module _ (before now : List ℕ) (day s e n method : ℕ) (h : 8 ≤ length before) (head : now ≡ (ascii "EV" ++ bytes 2 day) ++ drop 4 before) where
  pub event_put : set (set (set (set now 4 s) 5 e) 6 n) 7 method ≡ put_first (ev_record (record { day = day; s = s; e = e; n = n; method = method })) before
  unfolding ev_record bytes
  event_put =
      let long : length now ≡ length before = omega (arith, ap length head, length-drop 4 before) in
      let fill = head_put before (ascii "EV" ++ bytes 2 day) (s ∷ e ∷ n ∷ method ∷ []) refl (omega arith) head in
      let start = filling_one fill s (e ∷ n ∷ method ∷ []) (omega arith) refl in
      let end = filling_one start e (n ∷ method ∷ []) (rw length-set (omega arith)) refl in
      let notice = filling_one end n (method ∷ []) (rw (length-set, length-set) (omega arith)) refl in
      let last = filling_one notice method [] (rw (length-set, length-set, length-set) (omega arith)) refl in
      tells_whole (ev_record (record { day = day; s = s; e = e; n = n; method = method })) before h (filled last refl)
