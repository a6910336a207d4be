-- The first refusal: what the tests in code's form say of `tested`, and what `tested` says of the reply.
use Prim.Native.Nat.{ℕ, zero, suc, ◌-◌, ◌≤◌, ◌<◌}
use mathlib.Core.Path.{◌≡◌, refl, ◌∙◌}
use mathlib.Core.Bool.{Bool, true, false, cond, ◌&&◌}
use mathlib.Core.List.{List, [], ◌∷◌, ◌++◌}
use native.Mathlib.Omega.{arith}
use native.Mathlib.Numerals.{add-one}
use borrow.Author.Tests.{leb-true, ltb-true, ltb-false, lt-leb, le-ltb, ne_eqb, not-false}
use lib.Dec.{leb, ltb}
use Rattle.base_lists.proofs.Bools.{both}
use Rattle.calendar_dates.specs.Days.{last_day}
use Rattle.method.specs.declared.Request.{Request}
use Rattle.method.specs.declared.Method.{Method}
use Rattle.method.specs.Told.{method_numbered}
use Rattle.method.specs.declared.Refusal.{Refusal}
use Rattle.method.specs.Table.{Day, History, held}
use Rattle.method.specs.Ruler.{ruler_start, ruler_end}
use Rattle.method.specs.Verdict.{Reply, refused, first_of, request_refusals, good_request}
use Rattle.std.specs.Prelude.{Result, Ok, Err, is_ok}
use Rattle.engine_refusals.specs.Steps.{tested}

-- the reply of refusals and then others
pub first_append : (a b : List (Bool × Refusal)) (reply : Reply) → first_of (a ++ b) reply ≡ first_of a (first_of b reply)
unfolding first_of
first_append [] b reply = refl
first_append (t ∷ ts) b reply = rw (first_append ts b reply)

pub first_failed : (ts : List (Bool × Refusal)) (w : Refusal) (reply : Reply) → tested ts ≡ Err w → first_of ts reply ≡ refused w
unfolding first_of tested
first_failed [] w reply e = absurd (let z : ◌≡◌ {A = ℕ} 0 1 = cc in omega arith)
first_failed (t ∷ ts) w reply e = go t.0 e (first_failed ts w reply)
  where
    go : (b : Bool) → cond b (Err t.1) (tested ts) ≡ Err w → (tested ts ≡ Err w → first_of ts reply ≡ refused w)
        → cond b (refused t.1) (first_of ts reply) ≡ refused w
    go true e f = cc
    go false e f = f e

-- the first test of those that pass fails, and the rest pass
pub passed_next : (t : Bool) (w : Refusal) (ts : List (Bool × Refusal)) → tested ((t, w) ∷ ts) ≡ Ok tt → (t ≡ false) × (tested ts ≡ Ok tt)
unfolding tested
passed_next true w ts e = absurd (let z : ◌≡◌ {A = ℕ} 0 1 = cc in omega arith)
passed_next false w ts e = (refl, e)

pub first_passed : (ts : List (Bool × Refusal)) (reply : Reply) → tested ts ≡ Ok tt → first_of ts reply ≡ reply
unfolding first_of
first_passed [] reply e = refl
first_passed (t ∷ ts) reply e = let w = passed_next t.0 t.1 ts e in rw w.0 (first_passed ts reply w.1)

-- the numbers of methods are 0 and 1
known_is : (n : ℕ) → is_ok (method_numbered n) ≡ leb n 1
known_is zero = refl
known_is (suc zero) = refl
known_is (suc (suc n)) = rw (ne_eqb (suc (suc n)) 0 (λ e. omega arith), ne_eqb (suc (suc n)) 1 (λ e. omega arith), lt-leb (suc (suc n)) 1 (omega arith))

-- the tests of refusal 4, in code's form
pub good_is : (r : Request) {start end : ℕ} {known : Result Method Refusal} → start ≡ ruler_start r.event → end ≡ ruler_end r.event
    → known ≡ method_numbered r.method
    → (leb r.participation last_day && (leb start r.s && ltb r.s end) && (ltb r.s r.e && leb r.e end) && leb r.n r.s && is_ok known)
    ≡ good_request r
unfolding good_request
good_is r a b k = rw (a, b, k, known_is r.method, add-one r.s)

-- what a good request shows
pub record GoodRequest (r : Request) : Type 0 where
  pub from : ruler_start r.event ≤ r.s
  pub some : r.s < r.e
  pub up_to : r.e ≤ ruler_end r.event
  pub notified : r.n ≤ r.s

pub good_request_lem : (r : Request) → good_request r ≡ true → GoodRequest r
good_request_lem r e =
    record {
      from = leb-true start r.s (both (leb start r.s) (ltb r.s end) (both since starts ahead.0).1).0;
      some = ltb-true r.s r.e (both (ltb r.s r.e) (leb r.e end) ahead.1).0;
      up_to = leb-true r.e end (both (ltb r.s r.e) (leb r.e end) ahead.1).1;
      notified = leb-true r.n r.s whole.1;
    }
  where
    start : ℕ
    start = ruler_start r.event

    end : ℕ
    end = ruler_end r.event

    since : Bool
    since = leb r.participation last_day

    starts : Bool
    starts = leb start r.s && ltb r.s end

    ends : Bool
    ends = ltb r.s r.e && leb r.e end

    known_method : Bool
    known_method = is_ok (method_numbered r.method)

    known : ((((since && starts) && ends) && leb r.n r.s) ≡ true) × (known_method ≡ true)
    known = both (((since && starts) && ends) && leb r.n r.s) known_method (good_is r refl refl refl ∙ e)

    whole : (((since && starts) && ends) ≡ true) × (leb r.n r.s ≡ true)
    whole = both ((since && starts) && ends) (leb r.n r.s) known.0

    ahead : ((since && starts) ≡ true) × (ends ≡ true)
    ahead = both (since && starts) ends whole.0

-- a good request has a quarter
pub good_ordered : (r : Request) → good_request r ≡ true → r.s < r.e
good_ordered r e = (good_request_lem r e).some

module _ (h : History Day) (r : Request) (room : ℕ) where
  -- what a request that passes shows
  pub record Fits : Type 0 where
    pub request : good_request r ≡ true
    pub holds : held h r.event ≡ true
    pub takes_part : r.participation ≤ r.event
    pub enough : r.e - r.s ≤ room

  pub request_passed : tested (request_refusals h r room) ≡ Ok tt → Fits
  unfolding request_refusals
  request_passed e =
      let a = passed_next _ _ _ e in
      let b = passed_next _ _ _ a.1 in
      let c = passed_next _ _ _ b.1 in
      let d = passed_next _ _ _ c.1 in
      record {
        request = not-false (good_request r) a.0;
        holds = not-false (held h r.event) b.0;
        takes_part = ltb-false r.event r.participation c.0;
        enough = ltb-false room (r.e - r.s) d.0;
      }

  -- a request that passes
  pub fits : good_request r ≡ true → held h r.event ≡ true → r.participation ≤ r.event → r.e - r.s ≤ room → Ok tt ≡ tested (request_refusals h r room)
  unfolding request_refusals tested
  fits good holds takes_part l = rw (good, holds, le-ltb r.event r.participation takes_part, le-ltb room (r.e - r.s) l)
