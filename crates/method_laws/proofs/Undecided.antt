-- Two longer tables that show a margin too short: from a relevant day before the first on, every day is eligible in the one, and of no use
-- in the other.
use mathlib.Core.Path.{◌≡◌, refl}
use mathlib.Core.Bool.{true, false}
use Prim.Native.Nat.{ℕ, ◌-◌, ◌≤◌, ◌<◌}
use native.Mathlib.Omega.{arith}
use Rattle.base_lists.specs.Lists.{member}
use Rattle.base_lists.proofs.Bools.{clash}
use Rattle.calendar_groups.specs.declared.Group.{Group}
use Rattle.method.specs.declared.Request.{Request}
use Rattle.method.specs.Table.{Table, held_days, day_of, held, history, present, good_mark}
use Rattle.method.specs.Relevant.{relevant_days}
use Rattle.method.specs.Method.{is_short}
use Rattle.method.specs.Eligible.{complete, eligible, spare}
use Rattle.method.specs.Rules.{method_by}
use Rattle.method.specs.Requested.{method_of}
use Rattle.method.specs.Verdict.{well_formed}
use Rattle.method.specs.CutTables.{LongerFormed, window_days, Parted}
use Rattle.method_laws.proofs.Short.{short_day}
use Rattle.method_laws.proofs.Apart.{apart}
use Rattle.method_laws.proofs.Requested.{lawful}
use Rattle.method.proofs.Tables.{longer_extends, padded, padded_days, padded_longer, padded_formed, padded_mark, padded_readings}

-- a day put before a table is eligible under mark 0, and neither eligible nor spare under mark 2
module _ (k : ℕ) (t : Table) (room : k ≤ t.first) (d : ℕ) (since : t.first - k ≤ d) (below : d < t.first) where
  put_eligible : eligible (day_of (padded k 0 t) d) ≡ true
  unfolding eligible complete
  put_eligible = rw (padded_readings k 0 t room d since below present refl, padded_mark k 0 t room d since below)

  put_ineligible : eligible (day_of (padded k 2 t) d) ≡ false
  unfolding eligible complete
  put_ineligible = rw (padded_readings k 2 t room d since below present refl, padded_mark k 2 t room d since below)

  put_unspare : spare (day_of (padded k 2 t) d) ≡ false
  unfolding spare complete
  put_unspare = rw (padded_readings k 2 t room d since below present refl, padded_mark k 2 t room d since below)

module _ (group : ℕ → Group) (t : Table) (r : Request) (well : well_formed t ≡ true) (holds : held (history t) r.event ≡ true)
    (short : is_short (method_of group r) (history t) ≡ true) where
  -- a relevant day before the first
  k : ℕ
  k = (short_day (method_of group r) (history t) short).0

  k_relevant : member k (relevant_days group r) ≡ true
  unfolding k method_of method_by
  k_relevant = (short_day (method_of group r) (history t) short).1

  k_before : k < t.first
  unfolding k
  k_before = (short_day (method_of group r) (history t) short).2

  gap : ℕ
  gap = t.first - k

  room : gap ≤ t.first
  unfolding gap
  room = omega arith

  filled : ℕ → Table
  filled mark = padded gap mark t

  filled_longer : (mark : ℕ) → good_mark mark ≡ true → LongerFormed (filled mark) t
  unfolding filled
  filled_longer mark good = record { formed = padded_formed gap mark t room good well; longer = padded_longer gap mark t room }

  filled_days : (mark : ℕ) → held_days t < held_days (filled mark)
  unfolding filled gap
  filled_days mark = omega (arith, padded_days gap mark t room, k_before)

  windows : (d : ℕ) × (member d (window_days group (filled 0) r) ≡ true) × (member d (window_days group (filled 2) r) ≡ false)
  unfolding method_of method_by filled padded gap
  windows =
      apart (method_of group r) (lawful group r) (history t) (history (filled 0)) (history (filled 2))
      (longer_extends (padded_longer gap 0 t room)) (longer_extends (padded_longer gap 2 t room)) holds short
      (put_eligible gap t room) (put_ineligible gap t room) (put_unspare gap t room) k k_relevant k_before (omega (arith, k_before))

  pub parted : Parted group t r
  parted =
      record {
        two = record {
          one = filled 0;
          other = filled 2;
          one_longer = filled_longer 0 refl;
          other_longer = filled_longer 2 refl;
          differ = λ e. clash (rw e at windows.1) windows.2;
        };
        one_adds = filled_days 0;
        other_adds = filled_days 2;
        day = windows.0;
        inside = windows.1;
        outside = windows.2;
      }
