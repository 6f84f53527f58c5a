use Rattle.std.proofs.Common.{◌≡◌, ◌-◌, ◌++◌, ◌∷◌, List, length, sym, ap, ◌∙◌, arith, rules}
use Rattle.std.specs.List.{filter}
use Rattle.page_layout.specs.Page.{Page}
use Rattle.lab_dump.specs.PageBytes.{is_sound, page_from_bytes}
use Rattle.lab_mend.specs.Bits.{turned_bytes}
use Rattle.lab_mend.specs.Trial.{with_turned}
use Rattle.lab_mend.specs.Tried.{SoundPagesComeTo}
use Rattle.lab_mend.proofs.BitLemmas.{turned_back}
use Rattle.lab_mend.proofs.TriedLemmas.{both_turned, first_within, met_both, met_none, no_bits, none_turned, rest_within}
use Rattle.std.proofs.Common.{subst}
use Rattle.lab_mend.proofs.trial.+try_turned.Goals as goal

pub returns-then-turned-eq0-clause-met : goal.returns-then-turned-eq0-clause-met
returns-then-turned-eq0-clause-met t c = λ sound before.
    let size = c.args.geometry.now.data_bytes in
    let p = page_from_bytes size c.args.bytes.now in
    subst (λ (ps : List Page). SoundPagesComeTo size (sound ++ filter is_sound ps) c.try_page.new.kept c.try_page.result) (sym (none_turned p c.args.bits.now c.args.turned (omega arith))) (c.try_page.ensures sound before)

pub returns-in_default-clause-met : goal.returns-in_default-clause-met
returns-in_default-clause-met t c = λ sound before.
    let size = c.args.geometry.now.data_bytes in
    let p = page_from_bytes size c.args.bytes.now in
    subst (λ (ps : List Page). SoundPagesComeTo size (sound ++ filter is_sound ps) c.args.kept.now c.args.met) (sym (no_bits p c.args.bits.now c.args.turned c.in_default.ensures.cases (omega arith))) (met_none size sound c.args.kept.now c.args.met before)

pub try_turned-with-requires : goal.try_turned-with-requires
try_turned-with-requires t c =
    let are : c.args.bits.now ≡ c.in-Some.bit.now ∷ c.in-Some.more.now = c.in-Some.ensures.cases.0 in (
      first_of (search rules, omega (arith, ap length are, c.decreases), grind arith),
      (omega (arith, c.turn.auto.bytes), (c.requires.room, rest_within c.args.bytes.now c.turn.new.bytes c.in-Some.bit.now c.in-Some.more.now c.args.bits.now are c.turn.auto.bytes c.requires.within)),
    )

pub try_turned-requires : goal.try_turned-requires
try_turned-requires t c =
    let are : c.args.bits.now ≡ c.in-Some.bit.now ∷ c.in-Some.more.now = c.in-Some.ensures.cases.0 in
    let size : length c.turn-2.new.bytes ≡ length c.args.bytes.now = c.turn-2.auto.bytes ∙ (c.try_turned-with.auto.bytes ∙ c.turn.auto.bytes) in (
      first_of (search rules, omega (arith, ap length are, c.decreases), grind arith),
      (size ∙ c.requires.whole, (c.try_turned-with.auto.kept ∙ c.requires.room, rest_within c.args.bytes.now c.turn-2.new.bytes c.in-Some.bit.now c.in-Some.more.now c.args.bits.now are size c.requires.within)),
    )

pub returns-clause-same : goal.returns-clause-same
returns-clause-same t c =
    let bytes = c.args.bytes.now in
    let bit = c.in-Some.bit.now in
    let low = first_within bytes bit c.in-Some.more.now c.args.bits.now c.in-Some.ensures.cases.0 c.requires.within in
    let once : c.try_turned-with.new.bytes ≡ turned_bytes bytes bit = c.try_turned-with.ensures.same ∙ c.turn.ensures in
    c.try_turned.ensures.same ∙ (c.turn-2.ensures ∙ (ap (λ b. turned_bytes b bit) once ∙ turned_back bytes bit low))

pub returns-clause-met : goal.returns-clause-met
returns-clause-met t c = λ sound before.
    let size = c.args.geometry.now.data_bytes in
    let bytes = c.args.bytes.now in
    let bit = c.in-Some.bit.now in
    let more = c.in-Some.more.now in
    let n = c.args.turned in
    let low = first_within bytes bit more c.args.bits.now c.in-Some.ensures.cases.0 c.requires.within in
    let once : c.turn.new.bytes ≡ turned_bytes bytes bit = c.turn.ensures in
    let back : c.turn-2.new.bytes ≡ bytes = c.turn-2.ensures ∙ (ap (λ b. turned_bytes b bit) (c.try_turned-with.ensures.same ∙ once) ∙ turned_back bytes bit low) in
    let first : List Page = filter is_sound (with_turned (page_from_bytes size c.turn.new.bytes) more (n - 1)) in
    let second : List Page = filter is_sound (with_turned (page_from_bytes size c.turn-2.new.bytes) more n) in
    let both = both_turned size bytes bit more c.args.bits.now n (n - 1) (omega arith) c.in-Some.ensures.cases.0 (omega arith) in
    let all : filter is_sound (with_turned (page_from_bytes size bytes) c.args.bits.now n) ≡ first ++ second =
    both ∙ (ap (λ b. filter is_sound (with_turned (page_from_bytes size b) more (n - 1)) ++ filter is_sound (with_turned (page_from_bytes size bytes) more n)) (sym once) ∙ ap (λ b. first ++ filter is_sound (with_turned (page_from_bytes size b) more n)) (sym back)) in
    met_both size sound first second (filter is_sound (with_turned (page_from_bytes size bytes) c.args.bits.now n)) c.try_turned.new.kept c.try_turned.result all (c.try_turned.ensures.met (sound ++ first) (c.try_turned-with.ensures.met sound before))
