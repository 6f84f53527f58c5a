use Rattle.std.proofs.Common.{◌≡◌, ℕ, List, ◌+◌, ◌*◌, ◌^◌, ◌%◌, ◌∙◌, sym, ap, arith}
use Rattle.lab_mend.specs.Majority.{byte_of, majority_bit}
use Rattle.lab_mend.specs.Pages.{bytes_at}
use Rattle.lab_mend.proofs.MajorityLemmas.{byte_none, byte_more, byte_fits, majority_low, shifted}
use Rattle.lab_mend.proofs.majority.majority_byte.Goals as goal

pub loop-bit-init : goal.loop-bit-init
loop-bit-init c = sym (byte_none (majority_bit (bytes_at c.args.pages.now c.args.size c.args.count c.args.place)))

pub overflow_add-byte : goal.overflow_add-byte
overflow_add-byte c =
    let bytes : List ℕ = bytes_at c.args.pages.now c.args.size c.args.count c.args.place in
    let bit : ℕ = c.loop-bit.bit in
    let said : c.majority_bit.result ≡ majority_bit bytes bit = c.majority_bit.ensures in
    let moved : majority_bit bytes bit * 2 ^ bit % 2 ^ 8 ≡ majority_bit bytes bit * 2 ^ bit = shifted (majority_bit bytes bit) bit (majority_low bytes bit) (omega arith) in
    let fits = byte_fits bytes bit (omega arith) in
    rw (said, moved, c.loop-bit.invariant) (omega arith)

pub loop-bit-preserved : goal.loop-bit-preserved
loop-bit-preserved c =
    let bytes : List ℕ = bytes_at c.args.pages.now c.args.size c.args.count c.args.place in
    let bit : ℕ = c.loop-bit.bit in
    let said : c.majority_bit.result ≡ majority_bit bytes bit = c.majority_bit.ensures in
    let moved : majority_bit bytes bit * 2 ^ bit % 2 ^ 8 ≡ majority_bit bytes bit * 2 ^ bit = shifted (majority_bit bytes bit) bit (majority_low bytes bit) (omega arith) in
    ap (λ n. n + c.majority_bit.result * 2 ^ bit % 2 ^ 8) c.loop-bit.invariant
    ∙ (ap (λ m. byte_of (majority_bit bytes) bit + m * 2 ^ bit % 2 ^ 8) said ∙ (ap (λ n. byte_of (majority_bit bytes) bit + n) moved ∙ sym (byte_more (majority_bit bytes) bit)))
