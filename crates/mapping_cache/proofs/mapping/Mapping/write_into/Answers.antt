use Rattle.std.proofs.Common.{ap, ◌∙◌, ◌+◌, ◌*◌, unwrap_or}
use Rattle.std.proofs.lemmas.Nat.{div-mul-add}
use Rattle.translation_pages.specs.TranslationPage.{entry_at}
use Rattle.mapping_cache.specs.View.{mapping_state}
use Rattle.mapping_cache.specs.Mapping.{per_page}
use Rattle.mapping_cache.proofs.mapping.Mapping.write_into.Goals as goal

pub returns : goal.returns
returns c =
    let m = mapping_state c.self.inside in
    let just = rw (← c.self.view_is) at c.dirty_of.ensures.just in
    let written = rw c.entries.ensures at c.write_rows.ensures in
    rw (← c.self.view_is) (λ i within. written i within ∙ ap (λ o. unwrap_or o (entry_at c.args.page.now i)) (just.each (c.args.t * per_page m + i) (div-mul-add c.args.t (per_page m) i within)))
