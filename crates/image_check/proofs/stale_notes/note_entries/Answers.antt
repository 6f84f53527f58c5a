use Rattle.std.proofs.Common.{◌≡◌, ◌*◌, ◌+◌, ℕ, min, Some, arith, ap, refl, sym, ◌∙◌}
use Rattle.page_layout.specs.Geometry.{entries}
use Rattle.image_check.specs.Noted.{claimed}
use Rattle.image_check.proofs.NotedLemmas.{claimed_at, noted_stays, no_record, other_key, past_pages, other_row, entry_page, noted_page}
use Rattle.image_check.proofs.stale_notes.note_entries.Goals as goal

pub returns-in_default-clause-noted : goal.returns-in_default-clause-noted
returns-in_default-clause-noted c = λ image p h at e b.
    noted_stays c.args.geometry.now image c.args.certificate.now c.args.row c.args.noted.now (no_record c.args.geometry.now image c.args.certificate.now c.args.row p at (sym c.in_default.is ∙ e)) h

pub returns-in_default-key : goal.returns-in_default-key
returns-in_default-key c = record {
  noted = λ image p h at e b. noted_stays c.args.geometry.now image c.args.certificate.now c.args.row c.args.noted.now
      (other_key c.args.geometry.now image c.args.certificate.now c.args.row p c.in-Some.found c.key.result at (sym c.in-Some.is ∙ e) c.key.ensures
      (λ t l d x. c.in_default-key.not-Translation t x)) h;
  most = refl;
}

pub returns-then-page-translation_pages-clause-noted : goal.returns-then-page-translation_pages-clause-noted
returns-then-page-translation_pages-clause-noted c = λ image p h at e b.
    noted_stays c.args.geometry.now image c.args.certificate.now c.args.row c.args.noted.now
    (past_pages c.args.geometry.now image c.args.certificate.now c.args.row c.in-Translation.page p c.in-Some.found c.key.result at
    (sym c.in-Some.is ∙ e) c.key.ensures c.in-Translation.is (omega arith)) h

pub returns-then-not-same_row-clause-noted : goal.returns-then-not-same_row-clause-noted
returns-then-not-same_row-clause-noted c = λ image p h at e b.
    noted_stays c.args.geometry.now image c.args.certificate.now c.args.row c.args.noted.now
    (other_row c.args.geometry.now image c.args.certificate.now c.args.row c.in-Translation.page p c.in-Some.found c.key.result
    c.directory_row.result at (sym c.in-Some.is ∙ e) c.key.ensures c.in-Translation.is
    (claimed_at c.args.certificate.now.directory c.in-Translation.page c.directory_row.result c.directory_row.ensures.is)
    (c.same_row.ensures.no c.if-not-same_row.true)) h

pub returns-clause-noted : goal.returns-clause-noted
returns-clause-noted c = λ image p h at e b.
    let g = c.args.geometry.now in
    let claim = c.args.certificate.now in
    let t = c.in-Translation.page in
    let first : ℕ = t * c.entries.result in
    let begins : first ≡ t * entries g = ap (λ k. t * k) c.entries.ensures in
    let ends : c.min-end.result ≡ min g.sectors (first + entries g) = omega arith in
    let dir : claimed claim.directory t ≡ Some c.args.row = claimed_at claim.directory t c.directory_row.result c.directory_row.ensures.is ∙ c.same_row.ensures.yes c.if-not-same_row.false in
    noted_page g image claim c.args.row t first c.min-end.result c.args.body.now c.args.noted.now c.note_differing.new.noted
    (entry_page g image claim c.args.row t p c.in-Some.found c.key.result c.args.body.now at (sym c.in-Some.is ∙ e) c.key.ensures c.in-Translation.is (omega arith) dir b) begins ends h c.note_differing.ensures.noted

pub returns-in_default-clause-most : goal.returns-in_default-clause-most
returns-in_default-clause-most c = refl

pub returns-then-page-translation_pages-clause-most : goal.returns-then-page-translation_pages-clause-most
returns-then-page-translation_pages-clause-most c = refl

pub returns-then-not-same_row-clause-most : goal.returns-then-not-same_row-clause-most
returns-then-not-same_row-clause-most c = refl

pub returns-clause-most : goal.returns-clause-most
returns-clause-most c = c.note_differing.ensures.most
