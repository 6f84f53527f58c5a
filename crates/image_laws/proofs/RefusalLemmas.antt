-- What is refused has one reason: of two reasons neither comes first.
use Rattle.std.proofs.Common.{◌≡◌, ℕ, ◌+◌, ◌*◌, ◌<◌, List, Option, Some, None, get_or, inl, inr, refl, sym, ap, ◌∙◌, arith}
use Rattle.std.specs.Prelude.{nat_lt, ◌==◌, if◌then◌else◌}
use Rattle.std.proofs.lemmas.Bool.{cases_order, both_ways}
use Rattle.page_layout.specs.declared.record.Record.{Record}
use Rattle.page_layout.specs.declared.geometry.Geometry.{Geometry}
use Rattle.page_layout.specs.Page.{Image}
use Rattle.bad_blocks.specs.declared.table.page.TableFault.TheVariants.{BadClass, BadPadding}
use Rattle.certificate.specs.Claim.{Claim}
use Rattle.image_check.specs.declared.refusal.Refusal.{Refusal}
use Rattle.image_check.specs.Refused.{Part, order, IsFirstWrong, RepeatsSequence}
use Rattle.image_check.specs.Refused.{Asked, Numbers, Sequences, Tables, Directory, Sectors, BadSet, States, Live, Wear, Next, Fresh}
use Rattle.image_laws.specs.Refusals.{OnePartLaw, OnePairLaw, OneWordLaw, CertifiedLaw}

-- the part at a place of the order
abbrev part_at : ℕ → Part
part_at n =
    if n == 0 then Asked else (
    if n == 1 then Numbers else (
    if n == 2 then Sequences else (
    if n == 3 then Tables else (
    if n == 4 then Directory else (
    if n == 5 then Sectors else (
    if n == 6 then BadSet else (
    if n == 7 then States else (
    if n == 8 then Live else (
    if n == 9 then Wear else (
    if n == 10 then Next else (
    Fresh)))))))))))

part_there : (part : Part) → part_at (order part) ≡ part
part_there Asked = refl
part_there Numbers = refl
part_there Sequences = refl
part_there Tables = refl
part_there Directory = refl
part_there Sectors = refl
part_there BadSet = refl
part_there States = refl
part_there Live = refl
part_there Wear = refl
part_there Next = refl
part_there Fresh = refl

pub same_place : (p q : Part) → order p ≡ order q → p ≡ q
same_place p q is = sym (part_there p) ∙ (ap part_at is ∙ part_there q)

-- a part that fails comes after no other one that fails first
pub same_part : (g : Geometry) (capacity : ℕ) (image : Image) (c : Claim) (r s : Refusal) (a : IsFirstWrong g capacity image c r) (b : IsFirstWrong g capacity image c s) → a.part ≡ b.part
same_part g capacity image c r s a b = elim (cases_order (order a.part) (order b.part)) [
  | inl same ↦ same_place a.part b.part same
  | inr (inl below) ↦ absurd (a.wrong.fails (b.before a.part below))
  | inr (inr above) ↦ absurd (b.wrong.fails (a.before b.part above))
]

pub one_part : OnePartLaw
one_part g capacity image c r s a b = a.wrong.part_is ∙ (ap Some (same_part g capacity image c r s a b) ∙ sym b.wrong.part_is)

-- two rows that share a sequence each with one row share it with each other
joined : (marks : List (Option Record)) (a c b d : ℕ) → b ≡ d → a < c → RepeatsSequence marks a b → RepeatsSequence marks c d → RepeatsSequence marks a c
joined marks a c b d same below first second =
    let here : Some first.second ≡ Some second.second = sym first.at_second ∙ (ap (λ (n : ℕ). get_or marks n None) same ∙ second.at_second) in
    let one : first.second ≡ second.second = cc in
    record {
      order = below;
      first = first.first;
      second = second.first;
      at_first = first.at_first;
      at_second = second.at_first;
      same = first.same ∙ (ap (λ (x : Record). x.sequence) one ∙ sym second.same);
    }

pub one_pair : OnePairLaw
one_pair marks a b c d first other = (
  elim (cases_order a c) [
    | inl same ↦ same
    | inr (inl below) ↦ absurd (let low = first.lowest a c (joined marks a c b d ends below first.pair other.pair) in let order = other.pair.order in omega (arith, ends))
    | inr (inr above) ↦ absurd (let low = other.lowest c a (joined marks c a d b (sym ends) above other.pair first.pair) in let order = first.pair.order in omega (arith, ends))
  ],
  ends,
)
  where
    ends : b ≡ d
    ends = let low = first.lowest c d other.pair in let high = other.lowest a b first.pair in omega arith

pub one_word : OneWordLaw
one_word entries blocks u bytes fault other a b = elim (cases_order a.place b.place) [
  | inl same ↦ sym a.fault_is ∙ (ap (λ (n : ℕ). if nat_lt (u * entries + n) blocks then BadClass else BadPadding) same ∙ b.fault_is)
  | inr (inl below) ↦ absurd (both_ways _ a.wrong (b.before a.place below))
  | inr (inr above) ↦ absurd (both_ways _ b.wrong (a.before b.place above))
]

pub certified : CertifiedLaw
certified g capacity image r mountable (inl stop) = stop
certified g capacity image r mountable (inr u) = absurd (u.none mountable)
