use Rattle.std.proofs.Common.{◌∙◌, ap, refl, sym, subst, ◌<◌}
use Rattle.std.proofs.lemmas.List.{with_items_is}
use Rattle.std.proofs.lemmas.Result.{err_from_is_err_and}
use Rattle.collection.specs.Safe.{ram, page_in_buffer}
use Rattle.collection.proofs.Looks.{ok_not_bus}
use Rattle.collection.proofs.WriteBacks.{filled_at, brought_at, may_write_back, cleans_by, written_back_by}
use Rattle.collection.proofs.Copies.{moved_written}
use Rattle.collection.proofs.Costs.{not_bus}
use Rattle.collection.proofs.Cuts.{cut_translation}
use Rattle.collection.proofs.Steps.{err_same}
use Rattle.std.specs.Map.{keys_of}
use Rattle.page_layout.specs.Geometry.{translation_pages}
use Rattle.page_layout.specs.declared.record.Kind.TheVariants.{Translation}
use Rattle.budget.specs.declared.stream.Stream.TheVariants.{Meta}
use Rattle.mapping_cache.specs.Mapping.{cleaned}
use Rattle.collection.specs.Looks.{IsPadded}
use Rattle.collection.specs.Settle.{HasNoMore}
use Rattle.collection.proofs.Acts.{acts_filled, acts_err}
use Rattle.collection.proofs.Programs.{buffer_body}
use Rattle.collection.proofs.Afters.{acts_on, no_more_is, mapped_ram, mapped_goes, mapped_last, mapped_put}
use Rattle.collection.proofs.engine.Engine.write_loaded.Goals as goal

pub returns : goal.returns
returns g c =
    let r = ram c.args.self.now in
    let r2 = ram c.replace.new.self in
    record {
      acts = acts_filled _ _ _ _ (acts_on _ c.replace.new.self _ c.in_ok-replace.field-0 _ (record {
        memory = mapped_ram (ram c.replace.new.self) c.clean.new.self c.replace.ensures.acts.safe.memory c.clean.ensures.valid c.clean.ensures.limits.geometry;
        geometry = c.replace.ensures.acts.safe.geometry;
        page = c.replace.ensures.acts.safe.page;
        scratch = c.replace.ensures.acts.safe.scratch;
      }) refl refl refl refl c.in_ok-replace.ensures.acts);
      goes = mapped_goes (ram c.replace.new.self) c.clean.new.self (ram c.args.self.now) c.replace.ensures.goes;
      only_programs = c.replace.ensures.only_programs;
      pin = c.replace.ensures.pin;
      cleaned = c.clean.ensures.cleaned ∙ ap (λ m. cleaned m c.args.t) c.in_ok-replace.ensures.mapping;
      cleans = cleans_by c.args.self.now.mapping c.replace.new.self.mapping c.clean.new.self c.args.t c.in_ok-replace.ensures.mapping
          (record { clean = c.clean.ensures.clean; others = c.clean.ensures.others_pending; knows = λ n row is. c.clean.ensures.same_known n row is });
      keys = c.clean.ensures.keys ∙ ap (λ m. keys_of m.cached) c.in_ok-replace.ensures.mapping;
      no_more = subst (λ m. HasNoMore m c.clean.new.self) c.in_ok-replace.ensures.mapping (record { limits = c.clean.ensures.limits; moved = c.clean.ensures.moved_fewer });
      mapping = tt;
      padded = subst (IsPadded c.args.self.now.geometry c.args.t)
          (sym (ap (λ b. b.items) c.replace.ensures.page ∙ with_items_is c.args.self.now.page.body c.fill_entries.new.body (c.fill_entries.auto.body ∙ c.deref_mut.ensures.len)))
          c.fill_entries.ensures.padded;
      checked = λ starts. brought_at c.args.t c.args.row c.args.self.now.geometry c.args.self.now.mapping (page_in_buffer c.args.self.now.page) _
          c.deref_mut.result.now c.fill_entries.new.body
          (ap (λ b. b.items) c.replace.ensures.page ∙ with_items_is c.args.self.now.page.body c.fill_entries.new.body (c.fill_entries.auto.body ∙ c.deref_mut.ensures.len))
          c.deref_mut.ensures.value starts c.fill_entries.ensures.rows;
      programmed = mapped_last (ram c.replace.new.self) c.clean.new.self Translation c.args.t _ c.in_ok-replace.ensures.programmed;
      cost = mapped_put (ram c.replace.new.self) c.clean.new.self Meta (ram c.args.self.now) c.in_ok-replace.ensures.cost;
      truth = λ honest w holds.
          let filled = filled_at r _ c.args.t c.args.row c.args.self.now.page.body.items _ c.deref_mut.result.now c.fill_entries.new.body w holds c.deref_mut.ensures.value
          (with_items_is c.args.self.now.page.body c.fill_entries.new.body (c.fill_entries.auto.body ∙ c.deref_mut.ensures.len)) c.fill_entries.ensures.rows c.fill_entries.ensures.padded in
          let may = may_write_back r r _ _ c.args.t c.args.row _ w refl refl filled holds.newest in
          written_back_by r r r2 c.clean.new.self _ _ _ c.args.t c.in_ok-replace.field-0 _ refl refl filled
          (c.in_ok-replace.ensures.truth honest may) c.replace.ensures.goes.geometry c.replace.ensures.acts.safe.memory.mapping_of
          (record { clean = c.clean.ensures.clean; others = c.clean.ensures.others_pending; knows = λ n row is. c.clean.ensures.same_known n row is })
          c.in_ok-replace.ensures.row;
      moved_out = λ honest w holds.
          let filled = filled_at r _ c.args.t c.args.row c.args.self.now.page.body.items _ c.deref_mut.result.now c.fill_entries.new.body w holds c.deref_mut.ensures.value
          (with_items_is c.args.self.now.page.body c.fill_entries.new.body (c.fill_entries.auto.body ∙ c.deref_mut.ensures.len)) c.fill_entries.ensures.rows c.fill_entries.ensures.padded in
          let may = may_write_back r r _ _ c.args.t c.args.row _ w refl refl filled holds.newest in
          let replaced = c.in_ok-replace.ensures.truth honest may in
          let written = written_back_by r r r2 c.clean.new.self _ _ _ c.args.t c.in_ok-replace.field-0 _ refl refl filled replaced
          c.replace.ensures.goes.geometry c.replace.ensures.acts.safe.memory.mapping_of
          (record { clean = c.clean.ensures.clean; others = c.clean.ensures.others_pending; knows = λ n row is. c.clean.ensures.same_known n row is })
          c.in_ok-replace.ensures.row in
          moved_written r r2 c.clean.new.self _ _ c.args.t c.in_ok-replace.field-0 c.args.row _ c.requires.safe.memory c.replace.ensures.acts.safe.memory
          c.replace.ensures.goes.geometry w written replaced c.in_ok-replace.ensures.row holds.newest c.requires.row;
      stops = λ honest w holds ne.
          let filled = filled_at r _ c.args.t c.args.row c.args.self.now.page.body.items _ c.deref_mut.result.now c.fill_entries.new.body w holds c.deref_mut.ensures.value
          (with_items_is c.args.self.now.page.body c.fill_entries.new.body (c.fill_entries.auto.body ∙ c.deref_mut.ensures.len)) c.fill_entries.ensures.rows c.fill_entries.ensures.padded in
          c.in_ok-replace.ensures.stops honest (may_write_back r r _ _ c.args.t c.args.row _ w refl refl filled holds.newest) (ok_not_bus _);
      cut = λ _ _ _ e. absurd (ok_not_bus _ e);
    }

-- ---- no page was put

pub returns-in_err-replace : goal.returns-in_err-replace
returns-in_err-replace g c =
    let p = err_from_is_err_and c.from_residual.result c.from_residual.ensures.1 in
    let r = ram c.args.self.now in
    rw (p.1, p.2) (record {
      acts = acts_filled _ _ _ _ (acts_err _ _ _ c.in_err-replace.ensures.acts);
      goes = c.replace.ensures.goes;
      only_programs = c.replace.ensures.only_programs;
      pin = c.replace.ensures.pin;
      cleaned = tt;
      cleans = tt;
      keys = ap (λ m. keys_of m.cached) c.in_err-replace.ensures.mapping;
      no_more = no_more_is _ _ c.in_err-replace.ensures.mapping;
      mapping = c.in_err-replace.ensures.mapping;
      padded = tt;
      checked = tt;
      programmed = tt;
      cost = c.in_err-replace.ensures.cost;
      truth = λ honest w holds.
          let filled = filled_at r _ c.args.t c.args.row c.args.self.now.page.body.items _ c.deref_mut.result.now c.fill_entries.new.body w holds c.deref_mut.ensures.value
          (with_items_is c.args.self.now.page.body c.fill_entries.new.body (c.fill_entries.auto.body ∙ c.deref_mut.ensures.len)) c.fill_entries.ensures.rows c.fill_entries.ensures.padded in
          c.in_err-replace.ensures.truth honest (may_write_back r r _ _ c.args.t c.args.row _ w refl refl filled holds.newest);
      moved_out = λ _ _ _ _ _ _. tt;
      stops = λ honest w holds ne.
          let filled = filled_at r _ c.args.t c.args.row c.args.self.now.page.body.items _ c.deref_mut.result.now c.fill_entries.new.body w holds c.deref_mut.ensures.value
          (with_items_is c.args.self.now.page.body c.fill_entries.new.body (c.fill_entries.auto.body ∙ c.deref_mut.ensures.len)) c.fill_entries.ensures.rows c.fill_entries.ensures.padded in
          c.in_err-replace.ensures.stops honest (may_write_back r r _ _ c.args.t c.args.row _ w refl refl filled holds.newest) (not_bus _ ne);
      cut = λ honest w holds is.
          let filled = filled_at r _ c.args.t c.args.row c.args.self.now.page.body.items _ c.deref_mut.result.now c.fill_entries.new.body w holds c.deref_mut.ensures.value
          (with_items_is c.args.self.now.page.body c.fill_entries.new.body (c.fill_entries.auto.body ∙ c.deref_mut.ensures.len)) c.fill_entries.ensures.rows c.fill_entries.ensures.padded in
          cut_translation c.args.t _ r _ _ _ (c.in_err-replace.ensures.cut honest (may_write_back r r _ _ c.args.t c.args.row _ w refl refl filled holds.newest) (err_same _ _ is));
    })

pub fill_entries-requires-clause-same_geometry : goal.fill_entries-requires-clause-same_geometry
fill_entries-requires-clause-same_geometry g c = c.requires.safe.memory.mapping_of

pub fill_entries-requires-clause-page_in : goal.fill_entries-requires-clause-page_in
fill_entries-requires-clause-page_in g c = c.requires.page

pub fill_entries-requires-clause-whole : goal.fill_entries-requires-clause-whole
fill_entries-requires-clause-whole g c = c.deref_mut.ensures.len ∙ (c.args.self.now.page.body.ok.0 ∙ c.requires.safe.page.body)

pub replace-requires-clause-safe : goal.replace-requires-clause-safe
replace-requires-clause-safe g c = record {
  memory = c.requires.safe.memory;
  geometry = c.requires.safe.geometry;
  page = buffer_body c.args.self.now.geometry c.args.self.now.page c.fill_entries.new.body c.requires.safe.page;
  scratch = c.requires.safe.scratch;
}

pub replace-requires-clause-key : goal.replace-requires-clause-key
replace-requires-clause-key g c = c.requires.page

pub replace-requires-clause-place : goal.replace-requires-clause-place
replace-requires-clause-place g c = tt

pub replace-requires-clause-old_row : goal.replace-requires-clause-old_row
replace-requires-clause-old_row g c = c.requires.row

pub clean-requires : goal.clean-requires
clean-requires g c = subst (λ x. c.args.t < translation_pages x) (sym (c.replace.ensures.acts.safe.memory.mapping_of ∙ c.replace.ensures.goes.geometry)) c.requires.page
