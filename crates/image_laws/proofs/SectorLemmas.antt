-- What is shown of a sector, and which pages share its greatest sequence.
use Rattle.std.proofs.Common.{◌≡◌, ℕ, ◌≤◌, List, Option, Some, None, get_or, take, drop, inl, inr, sym, ap, ◌∙◌, arith}
use Rattle.page_layout.specs.declared.record.Record.{Record}
use Rattle.page_layout.specs.declared.record.Key.{Key}
use Rattle.page_layout.specs.Page.{page}
use Rattle.page_layout.specs.Sound.{record_of}
use Rattle.page_layout.specs.Newest.{sequence_at}
use Rattle.page_layout.proofs.NewestLemmas.{sequence_at-is, sequence_at-key}
use Rattle.image_check.specs.Sector.{ShowsSector, HoldsSector}
use Rattle.image_laws.specs.Sectors.{OneTieLaw, TopTieLaw, ShownLaw, HeldLaw, ShownReadLaw}

both_ways : (a b c d : ℕ) → (a ≤ c) × (b ≤ d) → (c ≤ a) × (d ≤ b) → (a ≡ c) × (b ≡ d)
both_ways a b c d h k = (let x = h.0 in let y = k.0 in omega arith, let x = h.1 in let y = k.1 in omega arith)

pub one_tie : OneTieLaw
one_tie image n a b c d rows lowest others low = both_ways a b c d (lowest c d others) (low a b rows)

same_mark : (m : Option Record) (r s : Record) → m ≡ Some r → m ≡ Some s → s ≡ r
same_mark m r s e f = cc

pub top_tie : TopTieLaw
top_tie marks key a b row r s tied first other of_key =
    let top = sequence_at-is marks key a tied.value tied.at_first in
    let same : top.its ≡ r = same_mark (get_or marks a None) r top.its first top.is in
    let value : r.sequence ≡ tied.value = sym (ap (λ (x : Record). x.sequence) same) ∙ top.sequence_is in
    let here : sequence_at marks key row ≡ Some s.sequence = ap (λ (k : Key). sequence_at marks k row) (sym of_key) ∙ sequence_at-key marks row s other in
    let low = tied.greatest_value row s.sequence here in
    omega (arith, value, low)

pub shown : ShownLaw
shown n p bytes r h says =
    let same : h.its ≡ r = same_mark (record_of p) r h.its says h.says in
    (sym (ap (λ (x : Record). x.kind) same) ∙ h.kind_is, sym (ap (λ (x : Record). x.number) same) ∙ h.number_is, h.body_is)

pub held : HeldLaw
held n bytes h r says =
    let same : h.its ≡ r = same_mark (record_of (page bytes h.spare)) r h.its says h.says in
    (sym (ap (λ (x : Record). x.kind) same) ∙ h.kind_is, sym (ap (λ (x : Record). x.number) same) ∙ h.number_is)

holds_shown : (n : ℕ) (body spare bytes : List ℕ) → ShowsSector n (page body spare) bytes → HoldsSector n bytes
holds_shown n body spare bytes h = record {
  spare = spare;
  its = h.its;
  says = ap (λ (xs : List ℕ). record_of (page xs spare)) h.body_is ∙ h.says;
  kind_is = h.kind_is;
  number_is = h.number_is;
}

pub shown_read : ShownReadLaw
shown_read g n scratch bytes (inl zero) = inl zero
shown_read g n scratch bytes (inr shows) = inr (holds_shown n (take g.data_bytes scratch) (drop g.data_bytes scratch) bytes shows)
