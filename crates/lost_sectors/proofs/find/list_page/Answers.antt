use Rattle.std.proofs.Common.{◌∙◌, ◌-◌, ◌*◌, ap, sym, subst, take, arith}
use Rattle.page_layout.specs.declared.record.Key.TheVariants.{Translation}
use Rattle.translation_pages.specs.TranslationPage.{entry_at}
use Rattle.file_die.specs.Store.{Held}
use Rattle.image_check.specs.Agrees.{Agrees}
use Rattle.lost_sectors.specs.Lost.{Adds, AddsUpTo, is_lost, is_told}
use Rattle.lost_sectors.proofs.FindLemmas.{entries_there, late_listed, none_listed, on_ok_to, page_bounds, page_row, told_listed, told_up_to, up_to_start}
use Rattle.lost_sectors.proofs.find.list_page.Goals as goal

pub returns-in_default-clause-adds : goal.returns-in_default-clause-adds
returns-in_default-clause-adds g c h capacity agrees =
    let row = page_row c.args.geometry.now capacity (g.S.Store.held c.args.store.now).pages c.args.certificate.now c.args.t c.directory_row-row.result agrees c.requires.in_range c.directory_row-row.ensures.is in
    none_listed c.args.geometry.now (g.S.Store.held c.args.store.now).pages c.args.mark c.args.t c.args.lost.now c.requires.in_range (sym (c.in_ok-sequence.ensures.found h (Translation c.args.t) row) ∙ c.in_default.is)

pub returns-then-sequence-mark-clause-adds : goal.returns-then-sequence-mark-clause-adds
returns-then-sequence-mark-clause-adds g c h capacity agrees =
    let row = page_row c.args.geometry.now capacity (g.S.Store.held c.args.store.now).pages c.args.certificate.now c.args.t c.directory_row-row.result agrees c.requires.in_range c.directory_row-row.ensures.is in
    late_listed c.args.geometry.now (g.S.Store.held c.args.store.now).pages c.args.mark c.args.t c.in-Some.sequence c.args.lost.now c.requires.in_range
    (sym (c.in_ok-sequence.ensures.found h (Translation c.args.t) row) ∙ c.in-Some.is) c.if-sequence-mark.true

pub returns-clause-adds : goal.returns-clause-adds
returns-clause-adds g c =
    let geo = c.args.geometry.now in
    let store = g.S.Store.held c.args.store.now in
    let first = c.args.t * c.entries.result in
    let body = c.split_at.result.0.now in
    on_ok_to c.list_told.result _ _ (λ adds h capacity agrees. (
    let row = page_row geo capacity store.pages c.args.certificate.now c.args.t c.directory_row-row.result agrees c.requires.in_range c.directory_row-row.ensures.is in
    let has = sym (c.in_ok-sequence.ensures.found h (Translation c.args.t) row) ∙ c.in-Some.is in
    told_listed geo store.pages c.args.mark c.args.t first c.min-end.result c.in-Some.sequence body c.args.lost.now c.list_told.new.lost c.requires.in_range
    (ap (λ k. c.args.t * k) c.entries.ensures) (omega (arith, c.min-end.ensures, c.sectors.ensures, c.entries-2.ensures)) has c.if-sequence-mark.false
    (entries_there geo store.pages c.args.t c.directory_row-row.result c.in-Some.sequence c.sequence_of.new.page body row has (c.in_ok-sequence.ensures.gave h) (c.split_at.ensures.front ∙ ap (λ n. take n c.sequence_of.new.page) c.data_bytes.ensures))
    (subst (λ (s : Held). Adds (λ n. is_told s.pages c.in-Some.sequence (entry_at body (n - first)) n) first c.min-end.result c.args.lost.now c.list_told.new.lost) (c.sequence_of.ensures.looks.same h)
    (adds (c.sequence_of.ensures.looks.as_honest ∙ h) capacity (subst (λ (s : Held). Agrees geo capacity s.pages c.args.certificate.now) (sym (c.sequence_of.ensures.looks.same h)) agrees))))) c.list_told.ensures.adds

pub returns-in_err-sequence-clause-only : goal.returns-in_err-sequence-clause-only
returns-in_err-sequence-clause-only g c h capacity agrees =
    up_to_start (is_lost c.args.geometry.now (g.S.Store.held c.args.store.now).pages c.args.mark) _ _ c.args.lost.now (page_bounds c.args.geometry.now c.args.t)

pub returns-in_default-clause-only : goal.returns-in_default-clause-only
returns-in_default-clause-only g c h capacity agrees =
    up_to_start (is_lost c.args.geometry.now (g.S.Store.held c.args.store.now).pages c.args.mark) _ _ c.args.lost.now (page_bounds c.args.geometry.now c.args.t)

pub returns-then-sequence-mark-clause-only : goal.returns-then-sequence-mark-clause-only
returns-then-sequence-mark-clause-only g c h capacity agrees =
    up_to_start (is_lost c.args.geometry.now (g.S.Store.held c.args.store.now).pages c.args.mark) _ _ c.args.lost.now (page_bounds c.args.geometry.now c.args.t)

pub returns-clause-only : goal.returns-clause-only
returns-clause-only g c h capacity agrees =
    let geo = c.args.geometry.now in
    let store = g.S.Store.held c.args.store.now in
    let first = c.args.t * c.entries.result in
    let body = c.split_at.result.0.now in
    let row = page_row geo capacity store.pages c.args.certificate.now c.args.t c.directory_row-row.result agrees c.requires.in_range c.directory_row-row.ensures.is in
    let has = sym (c.in_ok-sequence.ensures.found h (Translation c.args.t) row) ∙ c.in-Some.is in
    told_up_to geo store.pages c.args.mark c.args.t first c.min-end.result c.in-Some.sequence body c.args.lost.now c.list_told.new.lost c.requires.in_range
    (ap (λ k. c.args.t * k) c.entries.ensures) (omega (arith, c.min-end.ensures, c.sectors.ensures, c.entries-2.ensures)) has c.if-sequence-mark.false
    (entries_there geo store.pages c.args.t c.directory_row-row.result c.in-Some.sequence c.sequence_of.new.page body row has (c.in_ok-sequence.ensures.gave h) (c.split_at.ensures.front ∙ ap (λ n. take n c.sequence_of.new.page) c.data_bytes.ensures))
    (subst (λ (s : Held). AddsUpTo (λ n. is_told s.pages c.in-Some.sequence (entry_at body (n - first)) n) first c.min-end.result c.args.lost.now c.list_told.new.lost) (c.sequence_of.ensures.looks.same h)
    (c.list_told.ensures.only (c.sequence_of.ensures.looks.as_honest ∙ h) capacity (subst (λ (s : Held). Agrees geo capacity s.pages c.args.certificate.now) (sym (c.sequence_of.ensures.looks.same h)) agrees)))
