-- `buffers::put_bytes` meets its contract: the bytes are copied over the part that begins at the place and is as long.
-- Assumes nothing.
use Prim.Native.Nat.{◌+◌, ◌-◌}
use native.Mathlib.Omega.{arith}
use mathlib.Core.Path.{◌≡◌}
use lib.ListN.{length}
use lib.Seq.{drop-drop}
use borrow.Rule.Slice.PartMut.{put_mid}
use Rattle.model.specs.Buffers.{put}
use Rattle.buffers.proofs.put_bytes.Goals as goal

pub returns : goal.returns
unfolding put put_mid
returns c =
    let n = length c.args.bytes.now in
    let size : c.args.at + n - c.args.at ≡ n = omega arith in
    rw (c.copy_from_slice.ensures.after, size, drop-drop n c.args.at c.args.out.now)
