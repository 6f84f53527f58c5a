use Rattle.std.proofs.Common.{rules, ◌≡◌, ℕ, List, ap, replicate, slice_set}
use Rattle.disk_commands.proofs.mark_file.blank_bytes.Goals as goal

pub returns : goal.returns
returns c =
    let zeros : c.in_ok-bytes.bytes.items ≡ replicate 4128 0 = search rules in
    ap (λ (xs : List ℕ). slice_set (slice_set xs 0 1) 4096 1) zeros
