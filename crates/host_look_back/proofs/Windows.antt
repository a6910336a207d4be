-- A window by value has the ranks of the event's window: what is told of a day's rank, and whether it is chosen.
use Prim.Native.Nat.{ℕ, ◌-◌}
use mathlib.Core.Path.{◌≡◌, sym, ap, ◌∙◌}
use mathlib.Core.Bool.{Bool, true, false, cond}
use mathlib.Core.List.{List}
use native.Mathlib.Omega.{arith}
use lib.Dec.{leb}
use Rattle.std.specs.Prelude.{Some, None}
use lib.ListN.{take}
use lib.Seq.{take_all}
use Rattle.calendar_groups.specs.declared.Group.{Group}
use Rattle.method.specs.declared.Request.{Request}
use Rattle.method.specs.Table.{Day, History}
use Rattle.method.specs.Method.{is_short}
use Rattle.method.specs.Requested.{method_of}
use Rattle.method_working.specs.Working.{rank_in, by_rank, rank, is_chosen}
use Rattle.method_working.specs.Sheet.{sheet_of}
use Rattle.method_working.proofs.ByRank.{ranked_size}
use Rattle.method_working.proofs.Leads.{chosen_shown}
use Rattle.engine_ranking.proofs.Rank.{take-padded}
use Rattle.engine_choice.proofs.Requested.{window_ten}
use Rattle.engine_window.specs.declared.Window.{Window}
use Rattle.engine_window.specs.Steps.{window_of}
use Rattle.host_answer.specs.Names.{told}
use Rattle.host_working.specs.Told.{as_number}
use Rattle.host_look_back.specs.Steps.{rank_told, chosen_told, rank_there, takes}

module _ (group : ℕ → Group) (r : Request) (h : History Day) (back : ℕ) {w : Window} (e : w ≡ window_of (method_of group r) h) where
  abbrev its : Window
  its = window_of (method_of group r) h

  -- its days are all that the window has
  all_days : take its.size its.days ≡ by_rank group r h
  unfolding window_of by_rank
  all_days =
      let few = window_ten group r h in
      let size = ranked_size group r h in
      take-padded its.size 10 (by_rank group r h) (omega (arith, size)) few ∙ take_all its.size (by_rank group r h) (omega (arith, size))

  same_rank : rank_there w r.event back ≡ rank group r h back
  unfolding rank_there rank window_of
  same_rank = rw e (ap (λ (l : List ℕ). cond (leb back r.event) (rank_in l (r.event - back)) 0) all_days)

  same_chosen : takes w (rank group r h back) ≡ is_chosen group r h back
  unfolding window_of sheet_of
  same_chosen = rw e (sym ((chosen_shown group r h).by_rank back))

  same_short : w.short ≡ is_short (method_of group r) h
  unfolding window_of
  same_short = ap (λ (w : Window). w.short) e

  pub rank_untold : w.short ≡ true → None ≡ rank_told group r h back
  rank_untold t = rw (sym same_short ∙ t)

  pub chosen_untold : w.short ≡ true → None ≡ chosen_told group r h back
  chosen_untold t = rw (sym same_short ∙ t)

  module _ (f : w.short ≡ false) {x : ℕ} (k : x ≡ rank_there w r.event back) where
    pub rank_told_lem : told x ≡ rank_told group r h back
    rank_told_lem = rw (sym same_short ∙ f) (ap told (k ∙ same_rank))

    pub chosen_told_lem : {b c : Bool} → b ≡ takes w x → b ≡ c → Some (as_number c) ≡ chosen_told group r h back
    chosen_told_lem t u = rw (sym same_short ∙ f) (ap (λ (b : Bool). Some (as_number b)) (sym u ∙ t ∙ ap (takes w) (k ∙ same_rank) ∙ same_chosen))
