use Rattle.std.proofs.Common.{◌≡◌, ◌<◌, ◌∙◌, List, ℕ, length, get_or, refl, sym, ap, subst, arith}
use Rattle.std.specs.Prelude.{All}
use Rattle.std.specs.Vec.{vec_len}
use Rattle.std.specs.List.{range_with_len}
use Rattle.std.proofs.lemmas.Bool.{eqb-true, eqb-false}
use Rattle.page_layout.specs.Page.{Page}
use Rattle.lab_dump.specs.PageBytes.{bits_of, bit_count, page_from_bytes}
use Rattle.lab_mend.specs.declared.choice.Origin.TheVariants.{Tried, Unsound}
use Rattle.lab_mend.specs.Choice.{Choice, by_turns}
use Rattle.lab_mend.specs.Found.{WritesChoice}
use Rattle.lab_mend.specs.Trial.{differing_bits}
use Rattle.lab_mend.specs.Tried.{first_at, pages_at}
use Rattle.lab_mend.proofs.BitLemmas.{count_page}
use Rattle.lab_mend.proofs.FoundLemmas.{bytes_of_page_in}
use Rattle.lab_mend.proofs.TriedLemmas.{bits_within, tried_yes, tried_none, tried_many}
use Rattle.lab_mend.proofs.choice.try_readings.Goals as goal
use Rattle.lab_mend.proofs.choice.try_readings.Goals.{else-list_bits-via-then-list_bits+else-not-is_empty, else-list_bits-via-else-list_bits}

pub try_all-requires-clause-within : goal.try_all-requires-clause-within
try_all-requires-clause-within c =
    let geo = c.args.geometry.now in
    let pages = c.args.pages.now in
    let places = c.args.room.now.places.items in
    let out = c.args.out.now in
    let few = subst (λ (ks : List ℕ). c.list_bits.new.bits.items ≡ differing_bits (first_at geo pages ks) (pages_at geo pages ks)) c.deref.ensures.value (c.list_bits.ensures.few c.if-list_bits.true) in
    let size : bit_count (first_at geo pages places) ≡ bits_of out = ap (λ b. bit_count (page_from_bytes geo.data_bytes b)) (sym c.requires.first) ∙ count_page geo.data_bytes out in
    subst (All (λ k. k < bits_of out)) (sym (c.deref-then-not-is_empty.ensures.value ∙ few)) (bits_within (first_at geo pages places) (pages_at geo pages places) (bits_of out) size)

pub returns-then-not-is_empty-clause-writes : goal.returns-then-not-is_empty-clause-writes
returns-then-not-is_empty-clause-writes c =
    let geo = c.args.geometry.now in
    let pages = c.args.pages.now in
    let places = c.args.room.now.places.items in
    let p = first_at geo pages places in
    let bits = differing_bits p (pages_at geo pages places) in
    let few = subst (λ (ks : List ℕ). c.list_bits.new.bits.items ≡ differing_bits (first_at geo pages ks) (pages_at geo pages ks)) c.deref.ensures.value (c.list_bits.ensures.few c.if-list_bits.true) in
    let most = c.list_bits.ensures.most c.if-list_bits.true in
    let some = eqb-false (vec_len c.list_bits.new.bits) 0 (sym c.is_empty.ensures ∙ c.if-not-is_empty.true) in
    let size = ap length few in
    let tried = tried_yes p bits (omega (arith, some, size, c.list_bits.new.bits.ok.0)) (omega (arith, most, size)) in
    let first : page_from_bytes geo.data_bytes c.args.out.now ≡ p = ap (page_from_bytes geo.data_bytes) c.requires.first in
    let mine = subst (λ (x : Page). WritesChoice (by_turns x c.deref-then-not-is_empty.result.now (range_with_len 1 (length c.deref-then-not-is_empty.result.now))) (Tried c.try_all.result) c.try_all.new.out) first c.try_all.ensures in
    let same = subst (λ (ks : List ℕ). WritesChoice (by_turns p ks (range_with_len 1 (length ks))) (Tried c.try_all.result) c.try_all.new.out) (c.deref-then-not-is_empty.ensures.value ∙ few) mine in
    subst (λ (x : Choice). WritesChoice x (Tried c.try_all.result) c.try_all.new.out) (sym tried) same

pub returns-else-list_bits-clause-writes : goal.returns-else-list_bits-clause-writes
returns-else-list_bits-clause-writes c =
    let geo = c.args.geometry.now in
    let pages = c.args.pages.now in
    let places = c.args.room.now.places.items in
    let p = first_at geo pages places in
    let bits = differing_bits p (pages_at geo pages places) in
    let written = c.requires.first ∙ sym (bytes_of_page_in geo pages (get_or places 0 0)) in
    elim c.else-list_bits.branch [
      | else-list_bits-via-then-list_bits+else-not-is_empty w ↦
          let few = subst (λ (ks : List ℕ). c.list_bits.new.bits.items ≡ differing_bits (first_at geo pages ks) (pages_at geo pages ks)) c.deref.ensures.value (c.list_bits.ensures.few w.if-list_bits.true) in
          let none = eqb-true (vec_len c.list_bits.new.bits) 0 (sym w.is_empty.ensures ∙ w.if-not-is_empty.false) in
          let size = ap length few in
          subst (λ (x : Choice). WritesChoice x Unsound c.args.out.now) (sym (tried_none p bits (omega (arith, none, size, c.list_bits.new.bits.ok.0)))) (record { origin_is = refl; bytes_are = written })
      | else-list_bits-via-else-list_bits w ↦
          let many = subst (λ (ks : List ℕ). 16 < length (differing_bits (first_at geo pages ks) (pages_at geo pages ks))) c.deref.ensures.value (c.list_bits.ensures.many w.if-list_bits.false) in
          subst (λ (x : Choice). WritesChoice x Unsound c.args.out.now) (sym (tried_many p bits many)) (record { origin_is = refl; bytes_are = written })
    ]
