-- What the C entries that are lent an output give back, and leave in it.
use Rattle.std.specs.Prelude.{ℕ, ◌*◌, ◌≡◌, List, length, ℤ, negsuc, Option, unwrap_or}
use Rattle.base_bytes.specs.PutFirst.{put_first}
use Rattle.method.specs.declared.Request.{Request}
use Rattle.method.specs.Table.{most_quarters}
use Rattle.method.specs.Verdict.{Reply, written}
use Rattle.engine_answer.specs.Answer.{answer_of}
use Rattle.table_bytes.specs.Output.{bytes_written}
use Rattle.file_record.specs.Layout.{file_of}
use Rattle.file_record.specs.Writer.{Lent, said, writing, leaving}
use Rattle.listing_lines.specs.Listing.{listing}
use Rattle.listing_whole.specs.Lists.{listed_in}
use Rattle.host_answer.specs.Telling.{number_of}
use Rattle.host_numbers.specs.Numbers.{length_told}

-- a number for C: HP_NOTHING, which is -2^63, where nothing is told
abbrev pub or_nothing : Option ℤ → ℤ
or_nothing told = unwrap_or told (negsuc 9223372036854775807)

-- room for the numerators of any event, four bytes each
abbrev pub most_bytes : ℕ
most_bytes = 4 * most_quarters

abbrev pub request_of : ℕ → ℕ → ℕ → ℕ → ℕ → ℕ → Request
request_of participation event s e n method = record { participation = participation; event = event; s = s; e = e; n = n; method = method }

-- 01, "A metering platform written in C calls one entry ..; it gets 0 or the refusal number."
pub record FileCall (reply : Reply) (r : ℕ) (out out' : List ℕ) : Type 0 where
  pub result : r ≡ number_of (answer_of reply)
  pub output : out' ≡ bytes_written reply out

-- the same over a table in memory
pub record TableCall (reply : Reply) (r : ℕ) (out out' : List ℕ) : Type 0 where
  pub result : r ≡ number_of (answer_of reply)
  pub output : out' ≡ written reply out

-- a file written: it stands first in the output, and the rest is kept; refused, nothing changes
pub record WriteCall (w : Lent) (r : ℤ) (out out' : List ℕ) : Type 0 where
  pub result : r ≡ length_told (writing w (length out))
  pub output : out' ≡ leaving (writing w (length out)) (file_of (said w)) out

-- the listing of a file: it stands first in the output where it fits, and the rest is kept; where it does not fit nothing changes
pub record ListingCall (file : List ℕ) (r : ℤ) (out out' : List ℕ) : Type 0 where
  pub result : r ≡ length_told (listed_in file (length out))
  pub output : out' ≡ put_first (listing file) out
