use Rattle.std.proofs.Common.{◌∙◌, ap, sym, subst, ◌<◌, ◌≡◌}
use Rattle.std.proofs.lemmas.Result.{err_from_is_err_and, on_ok_weaker}
use Rattle.mapping_cache.specs.Mapping.{cleaned, per_page}
use Rattle.collection.specs.Safe.{ram}
use Rattle.collection.proofs.Looks.{directory_row, ok_not_bus}
use Rattle.collection.proofs.Acts.{acts_err, looked, acts_then}
use Rattle.collection.proofs.WriteBacks.{read_costs, loaded_costs, loaded_known, written_loaded}
use Rattle.collection.proofs.Stops.{stops_looked, fault_not_bus}
use Rattle.collection.proofs.Cuts.{cut_read, cut_looking}
use Rattle.collection.proofs.Steps.{at_start, err_same}
use Rattle.std.specs.Prelude.{OnOk, OnErr}
use Rattle.std.specs.Map.{keys_of}
use Rattle.page_layout.specs.Geometry.{translation_pages}
use Rattle.collection.specs.Settle.{Cleans, HasNoMore}
use Rattle.collection.specs.Looks.{IsPadded}
use Rattle.collection.proofs.Rescues.{goes_from, unread_refused}
use Rattle.collection.proofs.Ends.{goes_is}
use Rattle.collection.proofs.Afters.{no_more_is, reads_one}
use Rattle.collection.proofs.engine.Engine.write_page_back.Goals as goal

-- ---- the page could not be read

pub returns-in_err-load_translation : goal.returns-in_err-load_translation
returns-in_err-load_translation g c =
    let p = err_from_is_err_and c.from_residual.result c.from_residual.ensures.1 in
    rw (p.1, p.2) (record {
      acts = acts_err _ _ _ (looked _ _ _ c.in_err-load_translation.ensures.looks);
      goes = goes_is (ram c.args.self.now) (ram c.load_translation.new.self) c.load_translation.ensures.looks.memory;
      reads = c.load_translation.ensures.reads;
      erases = c.load_translation.ensures.looks.only_reads.erases_are;
      pin = ap (λ r. r.pin) c.load_translation.ensures.looks.memory;
      cleaned = tt;
      cleans = tt;
      keys = ap (λ r. keys_of r.mapping.cached) c.load_translation.ensures.looks.memory;
      no_more = no_more_is _ _ (ap (λ r. r.mapping) c.load_translation.ensures.looks.memory);
      mapping = ap (λ r. r.mapping) c.load_translation.ensures.looks.memory;
      padded = tt;
      checked = tt;
      programmed = tt;
      cost = read_costs (ram c.args.self.now) (ram c.load_translation.new.self) _ c.load_translation.ensures.looks.memory c.in_err-load_translation.ensures.looks.faults;
      truth = λ honest w. unread_refused (ram c.args.self.now) (ram c.load_translation.new.self) _ _ _
          (c.in_err-load_translation.ensures.truth honest
          (directory_row c.args.self.now.geometry _ c.args.self.now.directory c.args.self.now.mapping c.args.t c.row_of-row.result w.maps
          c.requires.page c.row_of-row.ensures.value));
      stops = λ honest w ne. absurd
          (fault_not_bus _ ne
          (c.in_err-load_translation.ensures.truth honest
          (directory_row c.args.self.now.geometry _ c.args.self.now.directory c.args.self.now.mapping c.args.t c.row_of-row.result w.maps
          c.requires.page c.row_of-row.ensures.value)));
      cut = λ honest w is. cut_read (ram c.args.self.now) _ _ _ c.requires.safe.memory w (c.in_err-load_translation.ensures.looks.cut honest (err_same _ _ is));
    })

-- ---- it was

pub returns-clause-acts : goal.returns-clause-acts
returns-clause-acts g c = acts_then _ _ _ _ _ (ap (λ r. r.geometry) c.load_translation.ensures.looks.memory) (looked _ _ _ c.in_ok-load_translation.ensures.looks) c.write_loaded.ensures.acts

pub returns-clause-cost : goal.returns-clause-cost
returns-clause-cost g c = loaded_costs (ram c.args.self.now) (ram c.load_translation.new.self) _ _ c.load_translation.ensures.looks.memory c.write_loaded.ensures.cost

pub returns-clause-truth : goal.returns-clause-truth
returns-clause-truth g c = λ honest w.
    let a = ram c.args.self.now in
    let b = ram c.load_translation.new.self in
    let looks = c.in_ok-load_translation.ensures.looks in
    let still = ap (λ f. f.image) (looks.same honest (ok_not_bus _)) in
    let known = loaded_known a b _ _ c.args.t c.row_of-row.result _ looks.memory still w c.requires.page c.row_of-row.ensures.value (c.in_ok-load_translation.ensures.truth honest) in
    written_loaded a b _ _ _ _ c.args.t _ looks.memory still (c.write_loaded.ensures.truth (looks.only_reads.honest_is ∙ honest) known.0 known.1)

-- ---- what a stop leaves

pub returns-clause-stops : goal.returns-clause-stops
returns-clause-stops g c = λ honest w ne.
    let a = ram c.args.self.now in
    let b = ram c.load_translation.new.self in
    let looks = c.in_ok-load_translation.ensures.looks in
    let same = looks.same honest (ok_not_bus _) in
    let known = loaded_known a b _ _ c.args.t c.row_of-row.result _ looks.memory (ap (λ f. f.image) same) w c.requires.page c.row_of-row.ensures.value (c.in_ok-load_translation.ensures.truth honest) in
    stops_looked a b _ _ _ _ _ _ looks.memory same (looks.told honest (ok_not_bus _)) (c.write_loaded.ensures.stops (looks.only_reads.honest_is ∙ honest) known.0 known.1 ne)

-- ---- what a fault of the die leaves

pub returns-clause-cut : goal.returns-clause-cut
returns-clause-cut g c = λ honest w is.
    let a = ram c.args.self.now in
    let b = ram c.load_translation.new.self in
    let looks = c.in_ok-load_translation.ensures.looks in
    let same = looks.same honest (ok_not_bus _) in
    let known = loaded_known a b _ _ c.args.t c.row_of-row.result _ looks.memory (ap (λ f. f.image) same) w c.requires.page c.row_of-row.ensures.value (c.in_ok-load_translation.ensures.truth honest) in
    cut_looking a b _ _ _ _ _ looks.memory same (looks.told honest (ok_not_bus _)) (c.write_loaded.ensures.cut (looks.only_reads.honest_is ∙ honest) known.0 known.1 is)

pub load_translation-requires-clause-safe : goal.load_translation-requires-clause-safe
load_translation-requires-clause-safe g c = c.requires.safe

pub write_loaded-requires-clause-safe : goal.write_loaded-requires-clause-safe
write_loaded-requires-clause-safe g c = c.load_translation.ensures.looks.safe

pub write_loaded-requires-clause-page : goal.write_loaded-requires-clause-page
write_loaded-requires-clause-page g c = subst (λ r. c.args.t < translation_pages r.geometry) (sym c.load_translation.ensures.looks.memory) c.requires.page

pub returns-clause-goes : goal.returns-clause-goes
returns-clause-goes g c = goes_from (ram c.args.self.now) (ram c.load_translation.new.self) (ram c.write_loaded.new.self) c.load_translation.ensures.looks.memory c.write_loaded.ensures.goes

pub returns-clause-reads : goal.returns-clause-reads
returns-clause-reads g c = reads_one _ _ _ c.write_loaded.ensures.only_programs.reads_are c.load_translation.ensures.reads

pub returns-clause-erases : goal.returns-clause-erases
returns-clause-erases g c = c.write_loaded.ensures.only_programs.erases_are ∙ c.load_translation.ensures.looks.only_reads.erases_are

pub returns-clause-pin : goal.returns-clause-pin
returns-clause-pin g c = c.write_loaded.ensures.pin ∙ ap (λ r. r.pin) c.load_translation.ensures.looks.memory

pub returns-clause-cleaned : goal.returns-clause-cleaned
returns-clause-cleaned g c = subst (λ r. OnOk c.write_loaded.result (c.write_loaded.new.self.mapping ≡ cleaned r.mapping c.args.t)) c.load_translation.ensures.looks.memory c.write_loaded.ensures.cleaned

pub returns-clause-cleans : goal.returns-clause-cleans
returns-clause-cleans g c = subst (λ r. OnOk c.write_loaded.result (Cleans (per_page r.mapping) c.args.t r.mapping c.write_loaded.new.self.mapping)) c.load_translation.ensures.looks.memory c.write_loaded.ensures.cleans

pub returns-clause-keys : goal.returns-clause-keys
returns-clause-keys g c = c.write_loaded.ensures.keys ∙ ap (λ r. keys_of r.mapping.cached) c.load_translation.ensures.looks.memory

pub returns-clause-no_more : goal.returns-clause-no_more
returns-clause-no_more g c = subst (λ r. HasNoMore r.mapping c.write_loaded.new.self.mapping) c.load_translation.ensures.looks.memory c.write_loaded.ensures.no_more

pub returns-clause-mapping : goal.returns-clause-mapping
returns-clause-mapping g c = subst (λ r. OnErr c.write_loaded.result (c.write_loaded.new.self.mapping ≡ r.mapping)) c.load_translation.ensures.looks.memory c.write_loaded.ensures.mapping

pub returns-clause-padded : goal.returns-clause-padded
returns-clause-padded g c = subst (λ r. OnOk c.write_loaded.result (IsPadded r.geometry c.args.t c.write_loaded.new.self.page.body.items)) c.load_translation.ensures.looks.memory c.write_loaded.ensures.padded

pub returns-clause-programmed : goal.returns-clause-programmed
returns-clause-programmed g c = c.write_loaded.ensures.programmed
