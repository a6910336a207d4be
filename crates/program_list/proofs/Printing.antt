-- The listing of the bytes that were read is that of every input of which they were read.
use Prim.Native.Nat.{ℕ, ◌≤◌, ◌<◌}
use mathlib.Core.Path.{◌≡◌, sym, ◌∙◌, ap}
use mathlib.Core.List.{List, [], ◌++◌, append-nil}
use mathlib.Core.Logic.{⊎_elim}
use native.Mathlib.Omega.{arith}
use lib.ListN.{length, take, drop, get_or, length-append}
use lib.Seq.{length-take-le, take_at}
use mir.Syntax.{w8}
use mir.Val.{Fits}
use borrow.Author.Tests.{le-leb}
use Rattle.base_lists.proofs.Bools.{lt-or-le}
use Rattle.base_bytes.specs.PutFirst.{put_first}
use Rattle.file_record.proofs.Bytes.{below_take}
use Rattle.listing_lines.specs.Listing.{listing, longest}
use Rattle.listing_lines.proofs.Whole.{listing_cut}
use Rattle.std.specs.Prelude.{Result, Ok, Err}
use Rattle.method.specs.declared.Refusal.{Refusal}
use Rattle.listing_whole.specs.Lists.{most_listing, Lists}
use Rattle.listing_length.proofs.Most.{listing_most}
use Rattle.program_list.specs.Prints.{Prints}

module _ (bytes : List ℕ) (count : ℕ) (within : count ≤ length bytes) (enough : longest < length bytes) where
  same_listing : (more : List ℕ) → (count < length bytes → more ≡ []) → listing (take count bytes) ≡ listing (take count bytes ++ more)
  same_listing more ends = ⊎_elim ended full (lt-or-le count (length bytes))
    where
      ended : count < length bytes → listing (take count bytes) ≡ listing (take count bytes ++ more)
      ended h = rw (ends h, append-nil)

      full : length bytes ≤ count → listing (take count bytes) ≡ listing (take count bytes ++ more)
      full h =
          let size = length-take-le count bytes within in
          let first = take_at (take count bytes) more count size in
          let long : longest < length (take count bytes ++ more) = rw (length-append, size) (omega arith) in
          ap listing (sym first) ∙ listing_cut count (take count bytes ++ more) (omega arith) long

  -- a text that any listing fits
  module _ (known : (i : ℕ) → Fits w8 (get_or bytes i 0)) {before after : List ℕ} {r : Result ℕ Refusal} (q : Lists (take count bytes) before r after)
      (room : most_listing ≤ length before) where
    fits : length (listing (take count bytes)) ≤ length before
    fits = omega (arith, listing_most (take count bytes) (below_take count bytes (λ i. (known i).fits)))

    found : r ≡ Ok (length (listing (take count bytes)))
    found = rw (le-leb (length (listing (take count bytes))) (length before) fits) at q.result

    pub printed : {size : ℕ} → r ≡ Ok size → Prints bytes count size after
    unfolding put_first
    printed {size} e =
        let text = listing (take count bytes) in
        let long : length text ≡ size = cc (found) in
        let holds : after ≡ text ++ drop (length text) before = rw (le-leb (length text) (length before) fits) at q.output in
        let first : take size after ≡ text = rw holds (take_at text (drop (length text) before) size long) in
        record {
          within = omega (arith, ap length holds, length-append text (drop (length text) before));
          listed = λ more ends. first ∙ same_listing more ends;
        }

    pub never_refused : {X : Type 0} {w : Refusal} → r ≡ Err w → X
    never_refused e = let z : ◌≡◌ {A = ℕ} 0 1 = cc (found) in absurd (omega arith)
