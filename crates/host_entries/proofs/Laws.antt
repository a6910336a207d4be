-- No two differing results meet an entry's contract.
use Prim.Native.Nat.{ℕ}
use mathlib.Core.Path.{◌≡◌}
use mathlib.Core.List.{List}
use lib.IntN.{ℤ}
use Rattle.base_lists.proofs.Unique.{unique}
use Rattle.method.specs.Verdict.{Reply}
use Rattle.file_record.specs.Writer.{Lent}
use Rattle.host_entries.specs.Host.{TableCall, FileCall, WriteCall, ListingCall}

module _ {reply : Reply} {r r' : ℕ} {out after after' : List ℕ} where
  pub file_call_unique : FileCall reply r out after → FileCall reply r' out after' → (r ≡ r') × (after ≡ after')
  file_call_unique p q = (unique p.result q.result, unique p.output q.output)

  pub table_call_unique : TableCall reply r out after → TableCall reply r' out after' → (r ≡ r') × (after ≡ after')
  table_call_unique p q = (unique p.result q.result, unique p.output q.output)

pub write_call_unique : {w : Lent} {out after after' : List ℕ} {r r' : ℤ} → WriteCall w r out after → WriteCall w r' out after'
    → (r ≡ r') × (after ≡ after')
write_call_unique p q = (unique p.result q.result, unique p.output q.output)

pub listing_call_unique : {file out after after' : List ℕ} {r r' : ℤ} → ListingCall file r out after → ListingCall file r' out after'
    → (r ≡ r') × (after ≡ after')
listing_call_unique p q = (unique p.result q.result, unique p.output q.output)
