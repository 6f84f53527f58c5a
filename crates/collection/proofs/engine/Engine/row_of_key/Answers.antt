use Rattle.std.proofs.Common.{◌≡◌, ℕ, ◌<◌, Option, Some, None, IsSome, refl, subst, ap, ◌∙◌, sym}
use Rattle.std.specs.Option.{ForSome, option_flatten}
use Rattle.page_layout.specs.declared.geometry.Geometry.{Geometry}
use Rattle.page_layout.specs.declared.record.Key.TheVariants.{Translation}
use Rattle.page_layout.specs.Geometry.{row_count}
use Rattle.page_layout.specs.Live.{IsKeyOf}
use Rattle.mapping_cache.specs.Mapping.{IsEntryOf, slot_of}
use Rattle.collection.specs.Pages.{newest_row}
use Rattle.collection.specs.Safe.{ram}
use Rattle.collection.specs.Settle.{IsCachedKey}
use Rattle.collection.proofs.Gates.{row_of_cached, row_of_place, row_in_range}
use Rattle.collection.proofs.engine.Engine.row_of_key.Goals as goal

-- ---- a cached sector's

flat_row : (g : Geometry) (n : ℕ) (o : Option (Option ℕ)) (flat : Option ℕ) → ForSome o (IsEntryOf g n) → flat ≡ option_flatten o → ForSome flat (λ r. r < row_count g)
flat_row g n None flat entry is = λ r e. (let never : None ≡ Some r = sym is ∙ e in let no : ⊥ = cc in absurd no)
flat_row g n (Some row) flat entry is = λ r e. (entry row refl).row_in r (sym is ∙ e)

pub returns-in-Sector : goal.returns-in-Sector
returns-in-Sector g c = record {
  row = subst (λ (z : Geometry). ForSome c.flatten.result (λ r. r < row_count z)) c.requires.safe.memory.mapping_of
      (flat_row c.args.self.now.mapping.geometry c.in-Sector.n c.peek.result c.flatten.result c.peek.ensures.row c.flatten.ensures);
  newest = λ image w.
      let r = ram c.args.self.now in
      let cached : IsSome (slot_of r.mapping c.in-Sector.n) = subst (λ k. IsCachedKey r.mapping k) c.in-Sector.is c.requires.cached in
      row_of_cached r image c.in-Sector.n c.peek.result c.flatten.result w cached c.peek.ensures.value (λ x e. c.flatten.ensures ∙ ap option_flatten e) ∙ ap (newest_row image) (sym c.in-Sector.is);
}

-- ---- a translation page's

pub returns-in-Translation : goal.returns-in-Translation
returns-in-Translation g c = record {
  row = row_in_range (ram c.args.self.now) c.in-Translation.t c.row_of.result c.requires.safe.memory c.row_of.ensures.value;
  newest = λ image w. row_of_place (ram c.args.self.now) image (Translation c.in-Translation.t) c.in-Translation.t c.row_of.result w
      (subst (IsKeyOf c.args.self.now.geometry) c.in-Translation.is c.requires.key) refl c.row_of.ensures.value ∙ ap (newest_row image) (sym c.in-Translation.is);
}
