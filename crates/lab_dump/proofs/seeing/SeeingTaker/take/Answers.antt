use Rattle.std.proofs.Common.{◌≡◌, ◌+◌, ◌-◌, ◌*◌, ◌^◌, ◌<◌, ◌≤◌, ℕ, Bool, List, length, sym, ◌∙◌, ap, arith, refl, subst}
use Rattle.std.specs.Vec.{with_items}
use Rattle.std.proofs.lemmas.List.{with_items_is}
use Rattle.std.proofs.Math.Nat.{mul-le-mul}
use Rattle.page_layout.specs.declared.geometry.Geometry.{Geometry}
use Rattle.page_layout.specs.Geometry.{key_count, row_count}
use Rattle.page_layout.specs.Page.{page}
use Rattle.image_check.specs.Surveyed.{IsSized, IsSurvey}
use Rattle.lab_dump.specs.Count.{with_page_counted}
use Rattle.lab_dump.proofs.CountLemmas.{counts_more, few_more, few_weaker}
use Rattle.lab_dump.proofs.seeing.SeeingTaker.take.Goals as goal

-- so many pages are counted without a sum that wraps
few_rows : (g : Geometry) (row : ℕ) → row < row_count g → row ≤ 2 ^ 32 - 2
few_rows g row within =
    let most : g.blocks * g.pages ≤ 4096 * 256 = mul-le-mul g.limits.block_count.most g.limits.page_count.most in
    omega (arith, most, within)

pub see-found-requires : goal.see-found-requires
see-found-requires c =
    let same = sym c.requires.stands.geometry_is in
    record {
      sized = subst (λ k. IsSized k c.args.row c.args.self.now.survey) same c.requires.stands.sized;
      row_in = subst (λ k. c.args.row < row_count k) same c.requires.row_in;
      body_whole = c.requires.body_whole ∙ ap (λ (k : Geometry). k.data_bytes) same;
      spare_whole = c.requires.spare_whole ∙ ap (λ (k : Geometry). k.spare_bytes) same;
    }

pub step-self-requires : goal.step-self-requires
step-self-requires c = few_weaker c.args.row (2 ^ 32 - 2) c.args.self.now.counts (few_rows c.args.geometry.now c.args.row c.requires.row_in) c.requires.stands.counts

pub step-requires : goal.step-requires
step-requires c = record { row_in = c.requires.row_in; body_whole = c.requires.body_whole; spare_whole = c.requires.spare_whole; found = c.see-found.ensures.found; stands = c.requires.stands.doubting }

pub note_formed-requires : goal.note_formed-requires
note_formed-requires c =
    let stands = c.requires.stands in
    record {
      table = stands.table;
      size = ap length c.deref_mut.ensures.value ∙ stands.formed;
      newest_size = ap length c.deref.ensures.value ∙ (c.see-found.ensures.sized.newest ∙ ap key_count stands.geometry_is);
      body_whole = c.requires.body_whole;
    }

pub returns : goal.returns
returns c = record {
  stands =
      let g = c.args.geometry.now in
      let row = c.args.row in
      let stands = c.requires.stands in
      let self = c.args.self.now in
      let sized : IsSized g (row + 1) c.see-found.new.self = subst (λ k. IsSized k (row + 1) c.see-found.new.self) stands.geometry_is c.see-found.ensures.sized in
      let formed_is : (with_items self.formed c.note_formed.new.formed).items ≡ c.note_formed.new.formed = with_items_is self.formed c.note_formed.new.formed (c.note_formed.auto.formed ∙ c.deref_mut.ensures.len) in
      record {
        geometry_is = sized.geometry_is;
        sized = sized;
        counts = few_more g row self.counts c.step-self.result c.see-found.result c.is_erased-erased.result stands.counts c.step-self.ensures;
        formed = ap (λ (xs : List Bool). length xs) formed_is ∙ omega (arith, c.note_formed.auto.formed, c.deref_mut.ensures.len, stands.formed);
        doubting = c.step.ensures.stands;
        keys = stands.keys;
        scratch = stands.scratch;
        table = c.note_formed.ensures.table;
      };
  shows = λ image h at.
      let p = page c.args.areas.body.now c.args.areas.spare.now in
      let g = c.args.geometry.now in
      let row = c.args.row in
      let same = c.requires.stands.geometry_is in
      let found = c.see-found.ensures.found in
      let erased = c.is_erased-erased.ensures in
      let survey : IsSurvey g image (row + 1) c.see-found.new.self = subst (λ k. IsSurvey k image (row + 1) c.see-found.new.self) same (c.see-found.ensures.survey image (subst (λ k. IsSurvey k image row c.args.self.now.survey) (sym same) h.survey) at) in
      let formed_is : (with_items c.args.self.now.formed c.note_formed.new.formed).items ≡ c.note_formed.new.formed = with_items_is c.args.self.now.formed c.note_formed.new.formed (c.note_formed.auto.formed ∙ c.deref_mut.ensures.len) in
      record {
        survey = survey;
        counts = counts_more g image row p c.args.self.now.counts c.step-self.result at h.counts (c.step-self.ensures ∙ (ap (λ f. with_page_counted g c.args.self.now.counts f c.is_erased-erased.result) found ∙ ap (with_page_counted g c.args.self.now.counts _) erased));
        formed = rw formed_is (c.note_formed.ensures.formed image p (rw c.deref_mut.ensures.value h.formed) (rw c.deref.ensures.value survey.newest) at found refl);
        doubting = c.step.ensures.is image h.doubting at;
      };
  asked = refl;
  fixed = refl;
  stopped = tt;
}
