-- How long the lines of a listing get.
use Prim.Native.Nat.{ℕ, ◌+◌, ◌*◌, ◌^◌, ◌≤◌, ◌<◌, suc}
use mathlib.Core.Path.{◌≡◌, refl}
use mathlib.Core.Bool.{Bool, true}
use mathlib.Core.List.{List, [], ◌∷◌, ◌++◌, map}
use native.Mathlib.Omega.{arith}
use native.Mathlib.Nat.{div-le_self}
use lib.ListN.{length, length-append, length-map}
use lib.Dec.{leb}
use borrow.Author.Tests.{le-leb, leb-true}
use Rattle.base_lists.specs.Lists.{all}
use Rattle.base_lists.specs.Ascii.{ascii}
use Rattle.base_lists.proofs.Bools.{both}
use Rattle.base_lists.proofs.All.{all-append}
use Rattle.base_digits.specs.Digits.{dec, decimal}
use Rattle.base_digits.proofs.Digits.{dec-length, dec-length_32, decimal-length}
use Rattle.method.specs.declared.Request.{Request}
use Rattle.method.specs.declared.Refusal.{Refusal}
use Rattle.method.specs.Table.{most_quarters}
use Rattle.method.specs.declared.Refusal.TheVariants.{BadFile, NoEvent, BadTable, BadMark, BadReading, BadRequest, NotHeld}
use Rattle.method.specs.declared.Refusal.TheVariants.{NotYetParticipating, NoRoom, MarginTooShort, TooFew, NoAdjustmentWindow, Unwritable, BadMoves}
use Rattle.method.specs.Adjustment.{rounded}
use Rattle.method.specs.Verdict.{Answer, Reply, refused, answered, number, carries}
use Rattle.engine_numerators.proofs.Windows.{small}
use Rattle.engine_baseline.proofs.Answered.{Sound}
use Rattle.file_record.specs.declared.Shape.{Shape}
use Rattle.listing_lines.specs.Lines.{Field, Line, newline, spaced, line_text, lines_text}
use Rattle.listing_lines.specs.Listing.{header_line, refused_line, event_line, quarter_line, quarter_lines, refusal_line, event_lines}
use Rattle.listing_length.proofs.Near.{NearAnswer, Near}

-- ---- lines of fields of at most 20 bytes
abbrev brief : Field → Bool
brief f = leb (length f) 20

spaced_most : (fs : List Field) → all brief fs ≡ true → length (spaced fs) ≤ 21 * length fs
unfolding spaced all
spaced_most [] e = omega arith
spaced_most (f ∷ fs) e =
    let k = both (brief f) (all brief fs) e in
    omega (arith, length-append f (spaced fs), leb-true (length f) 20 k.0, spaced_most fs k.1)

line_most : (l : Line) → all brief l ≡ true → length (line_text l) ≤ 21 * length l + 1
unfolding line_text all
line_most [] e = omega arith
line_most (f ∷ fs) e =
    let k = both (brief f) (all brief fs) e in
    omega (arith, length-append (f ++ spaced fs) (newline ∷ []), length-append f (spaced fs), leb-true (length f) 20 k.0, spaced_most fs k.1)

brief-number : (n : ℕ) → n ≤ 4294967295 → brief (dec n) ≡ true
brief-number n h =
    let o : n < 2 ^ 32 = omega arith in
    let k : length (dec n) ≤ 20 = omega (arith, dec-length_32 n o) in
    le-leb (length (dec n)) 20 k

brief_numbers : (ns : List ℕ) → all small ns ≡ true → all brief (map dec ns) ≡ true
unfolding all
brief_numbers [] e = refl
brief_numbers (n ∷ ns) e =
    let k = both (small n) (all small ns) e in
    rw (brief-number n (leb-true n 4294967295 k.0)) (brief_numbers ns k.1)

-- ---- the lines of an event
carries_few : (w : Refusal) → (length (carries w) ≤ 2) × (number w ≤ 14)
carries_few (BadFile n) = (omega arith, omega arith)
carries_few NoEvent = (omega arith, omega arith)
carries_few BadTable = (omega arith, omega arith)
carries_few (BadMark n) = (omega arith, omega arith)
carries_few (BadReading n) = (omega arith, omega arith)
carries_few BadRequest = (omega arith, omega arith)
carries_few NotHeld = (omega arith, omega arith)
carries_few NotYetParticipating = (omega arith, omega arith)
carries_few NoRoom = (omega arith, omega arith)
carries_few (MarginTooShort n) = (omega arith, omega arith)
carries_few (TooFew m n) = (omega arith, omega arith)
carries_few (NoAdjustmentWindow n) = (omega arith, omega arith)
carries_few Unwritable = (omega arith, omega arith)
carries_few BadMoves = (omega arith, omega arith)

module _ (r : Request) (d : r.event ≤ 4294967295) (s : r.s ≤ 4294967295) (e : r.e ≤ 4294967295) where
  refusal_most : (w : Refusal) → all small (carries w) ≡ true → length (line_text (refusal_line r w)) ≤ 148
  unfolding refusal_line all
  refusal_most w n =
      let few = carries_few w in
      let numbered : number w ≤ 4294967295 = omega arith in
      let fields : all brief (refusal_line r w) ≡ true =
      rw (brief-number r.event d, brief-number r.s s, brief-number r.e e, brief-number (number w) numbered) (brief_numbers (carries w) n) in
      omega (arith, line_most (refusal_line r w) fields, length-map (carries w) dec)

  event_line_most : (a : Answer) → NearAnswer a → length a.days ≤ 5
      → length (line_text (event_line r a.days a.reach a.denominator a.adjusted)) ≤ 337
  unfolding event_line all
  event_line_most a n few =
      let count : length a.days ≤ 4294967295 = omega arith in
      let over : a.denominator ≤ 4294967295 = omega (arith, n.denominator) in
      let signed = le-leb (length (decimal a.adjusted)) 20 (decimal-length a.adjusted n.adjusted) in
      let close = ascii "reach" ∷ dec a.reach ∷ ascii "over" ∷ dec a.denominator ∷ ascii "adj" ∷ decimal a.adjusted ∷ [] in
      let line = event_line r a.days a.reach a.denominator a.adjusted in
      let ends : all brief close ≡ true = rw (brief-number a.reach n.reach, brief-number a.denominator over, signed) in
      let fields : all brief line ≡ true =
      rw (brief-number r.event d, brief-number r.s s, brief-number r.e e, brief-number (length a.days) count, all-append brief (map dec a.days) close, brief_numbers a.days n.days) ends in
      omega (arith, line_most line fields, length-append (map dec a.days) close, length-map a.days dec)

quarter_most : (over t k : ℕ) → over ≤ 60 → t < 1000 → k ≤ 1200000000 → length (line_text (quarter_line over t k)) ≤ 26
unfolding line_text quarter_line spaced
quarter_most over t k o h m =
    let kilowatts : rounded k over < 2 ^ 32 = omega (arith, div-le_self (2 * k + over) (2 * over)) in
    let first : length (dec t) ≤ 3 = dec-length 3 t (omega arith) (omega arith) in
    let second : length (dec k) ≤ 10 = dec-length_32 k (omega arith) in
    simp length-append (omega (arith, dec-length_32 (rounded k over) kilowatts))

quarters_most : (over t : ℕ) (ns : List ℕ) → over ≤ 60 → t + length ns ≤ 1000 → all (λ x. leb x 1200000000) ns ≡ true
    → length (lines_text (quarter_lines over t ns)) ≤ 26 * length ns
unfolding lines_text quarter_lines all
quarters_most over t [] o h m = omega arith
quarters_most over t (k ∷ ns) o h m =
    let l = both (leb k 1200000000) (all (λ x. leb x 1200000000) ns) m in
    let later : suc t + length ns ≤ 1000 = omega arith in
    let here : t < 1000 = omega arith in
    omega (
      arith,
      length-append (line_text (quarter_line over t k)) (lines_text (quarter_lines over (suc t) ns)),
      quarter_most over t k o here (leb-true k 1200000000 l.0),
      quarters_most over (suc t) ns o later l.1,
    )

pub reply_most : (r : Request) (reply : Reply) → r.event ≤ 65535 → r.s ≤ 255 → r.e ≤ 255 → Near reply
    → ((a : Answer) → reply ≡ answered a → Sound r most_quarters a × (all (λ x. leb x 1200000000) a.numerators ≡ true))
    → length (lines_text (event_lines r reply)) ≤ 3330
unfolding lines_text event_lines
reply_most r (refused w) d s e n q =
    let line = refusal_most r (omega arith) (omega arith) (omega arith) w n in
    omega (arith, length-append (line_text (refusal_line r w)) [])
reply_most r (answered a) d s e n q =
    let k = q a refl in
    let line = event_line_most r (omega arith) (omega arith) (omega arith) a n k.0.few in
    let numerators : r.s + length a.numerators ≤ 1000 = omega (arith, k.0.quarters) in
    let quarters = quarters_most a.denominator r.s a.numerators n.denominator numerators k.1 in
    omega (
      arith,
      k.0.quarters,
      k.0.enough,
      length-append (line_text (event_line r a.days a.reach a.denominator a.adjusted)) (lines_text (quarter_lines a.denominator r.s a.numerators)),
    )

-- ---- the first line
pub header_most : (file : Shape) → file.portfolio < 2 ^ 32 → file.participation < 2 ^ 32 → file.first < 2 ^ 32 → file.days < 2 ^ 32
    → length (line_text (header_line file)) ≤ 74
unfolding line_text header_line spaced
header_most file a b c d =
    simp length-append
    (omega (arith, dec-length_32 file.portfolio a, dec-length_32 file.participation b, dec-length_32 file.first c, dec-length_32 file.days d))

pub refused_most : (at : ℕ) → at < 2 ^ 32 → length (line_text (refused_line at)) ≤ 74
unfolding line_text refused_line spaced
refused_most at h = simp length-append (omega (arith, dec-length_32 at h))
