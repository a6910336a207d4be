-- Values told into a buffer: all of them where they fit, and none where they do not.
use Prim.Native.Nat.{◌≤◌, ◌<◌}
use mathlib.Core.Path.{◌≡◌}
use mathlib.Core.List.{List, ◌++◌}
use borrow.Author.Tests.{le-leb, lt-leb}
use lib.ListN.{length, drop}
use Rattle.base_bytes.specs.PutFirst.{put_first}

module _ {A : Type 0} (values before : List A) where
  pub tells_none : length before < length values → before ≡ put_first values before
  unfolding put_first
  tells_none h = rw (lt-leb (length values) (length before) h)

  pub tells_whole : {now : List A} → length values ≤ length before → now ≡ values ++ drop (length values) before → now ≡ put_first values before
  unfolding put_first
  tells_whole room e = rw (le-leb (length values) (length before) room) e
