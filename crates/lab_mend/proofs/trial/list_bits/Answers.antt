use Rattle.std.proofs.Common.{◌≡◌, ◌+◌, ◌*◌, ◌<◌, ◌≤◌, ◌∙◌, length, get_or, sym, ap, subst, arith}
use Rattle.std.specs.List.{list_any}
use Rattle.std.proofs.lemmas.List.Elements.{All-get_or}
use Rattle.page_layout.specs.Geometry.{page_bytes}
use Rattle.lab_dump.specs.PageBytes.{bit_count}
use Rattle.lab_mend.specs.Trial.{differ_in}
use Rattle.lab_mend.specs.Tried.{first_at, pages_at}
use Rattle.lab_mend.proofs.TriedLemmas.{bits_are, bits_step, filter_many, page_bits}
use Rattle.lab_mend.proofs.trial.list_bits.Goals as goal

pub loop-bit-preserved : goal.loop-bit-preserved
loop-bit-preserved c =
    let geo = c.args.geometry.now in
    let pages = c.args.pages.now in
    let places = c.args.places.now in
    let inv = c.loop-bit.invariant in
    record {
      are = bits_step (first_at geo pages places) (pages_at geo pages places) c.loop-bit.bits.items c.list_bit.new.bits.items c.loop-bit.bit inv.are (c.list_bit.ensures.few c.if-not-list_bit.false);
      few = c.list_bit.ensures.most;
      room = c.list_bit.ensures.room ∙ inv.room;
    }

pub returns-then-not-list_bit-clause-many : goal.returns-then-not-list_bit-clause-many
returns-then-not-list_bit-clause-many c = λ no.
    let geo = c.args.geometry.now in
    let pages = c.args.pages.now in
    let places = c.args.places.now in
    let p = first_at geo pages places in
    let ps = pages_at geo pages places in
    let many = c.list_bit.ensures.many c.if-not-list_bit.true in
    let within : get_or places 0 0 * page_bytes geo + page_bytes geo ≤ length pages = All-get_or (λ i. i * page_bytes geo + page_bytes geo ≤ length pages) places 0 0 c.requires.some c.requires.within in
    let all : 8 * page_bytes geo ≡ bit_count p = sym (page_bits geo pages (get_or places 0 0) within) in
    subst (λ xs. 16 < length xs) (bits_are p ps (8 * page_bytes geo) all)
    (filter_many (λ k. list_any (λ q. differ_in p q k) ps) c.loop-bit.bit (8 * page_bytes geo) (omega arith) many.1 (ap length (sym c.loop-bit.invariant.are) ∙ many.0))

pub returns-clause-few : goal.returns-clause-few
returns-clause-few c = λ yes.
    let geo = c.args.geometry.now in
    let pages = c.args.pages.now in
    let places = c.args.places.now in
    let p = first_at geo pages places in
    let ps = pages_at geo pages places in
    let within : get_or places 0 0 * page_bytes geo + page_bytes geo ≤ length pages = All-get_or (λ i. i * page_bytes geo + page_bytes geo ≤ length pages) places 0 0 c.requires.some c.requires.within in
    let end : c.loop-bit.bit ≡ 8 * page_bytes geo = omega arith in
    c.loop-bit.invariant.are ∙ bits_are p ps c.loop-bit.bit (end ∙ sym (page_bits geo pages (get_or places 0 0) within))
