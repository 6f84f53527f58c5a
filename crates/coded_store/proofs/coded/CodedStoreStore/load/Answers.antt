use Rattle.std.proofs.Common.{rules, ◌≡◌, true, ℕ, List, ◌∙◌, ◌*◌, ap, subst}
use Rattle.std.specs.Prelude.{slice_set}
use Rattle.std.specs.Result.{is_ok}
use Rattle.std.proofs.lemmas.List.{with_items_is}
use Rattle.page_layout.specs.declared.geometry.Geometry.{Geometry}
use Rattle.onfi_cycles.specs.Cycles.{page_of}
use Rattle.file_die.specs.Bytes.{Gives}
use Rattle.coded_store.specs.Reading.{read_as, wrong_with}
use Rattle.coded_store.specs.declared.wrong.Wrong.{Wrong}
use Rattle.coded_store.specs.File.{IsWithCodes}
use Rattle.coded_store.proofs.StoreLemmas.{stood_at}
use Rattle.coded_store.proofs.coded.CodedStoreStore.load.Given.{Over}
use Rattle.coded_store.proofs.coded.CodedStoreStore.load.Goals.{After-show}
use Rattle.coded_store.proofs.coded.CodedStoreStore.load.Goals as goal

-- what is shown are the bytes that were read
as_read : (g : Over) (c : After-show g) → c.deref.result.now ≡ c.read.new.to
as_read g c = c.deref.ensures.value ∙ with_items_is c.self.inside.stands c.read.new.to (c.read.auto.to ∙ c.deref_mut.ensures.len)

-- and what is wrong with them
is_wrong : (g : Over) (c : After-show g) → c.show.result ≡ wrong_with c.self.inside.rows.geometry (page_of c.self.inside.rows.geometry c.read.new.to)
is_wrong g c =
    c.show.ensures.wrong ∙ (ap (λ z. wrong_with c.geometry.result (page_of c.geometry.result z)) (as_read g c)
    ∙ ap (λ (z : Geometry). wrong_with z (page_of z c.read.new.to)) (c.geometry.ensures.geometry ∙ c.read.ensures.counts.geometry))

pub returns-clause-told_of : goal.returns-clause-told_of
returns-clause-told_of g c =
    let i = c.self.inside in
    let old = i.rows in
    let bytes = c.read.new.to in
    let done : is_ok c.read.result ≡ true = search rules in
    let same = c.geometry.ensures.geometry ∙ c.read.ensures.counts.geometry in
    let here = (goal.at.returns-clause-told_of g c).After-show in
    let stood = as_read g here in
    let shown = c.show.ensures.page ∙ ap (λ z. read_as c.geometry.result (page_of c.geometry.result z)) stood in
    rw (← c.self.view_is) (record {
      bytes = bytes;
      once = subst (λ n. Gives g.F.ByteFile.gave old.file (c.args.row * n) bytes c.read.new.self.file) c.self.invariant.sized (c.read.ensures.gave done);
      whole = subst (λ (z : Geometry). IsWithCodes z (page_of z bytes)) same (subst (λ (xs : List ℕ). IsWithCodes c.geometry.result (page_of c.geometry.result xs)) stood c.show.ensures.bytes);
      shows = subst (λ (z : Geometry). page_of z c.show.new.page ≡ read_as z (page_of z bytes)) same shown;
      tells = ap (λ (w : Wrong). slice_set i.wrong.items c.args.row w) (is_wrong g here);
    })

pub returns-clause-told : goal.returns-clause-told
returns-clause-told g c h =
    let i = c.self.inside in
    let old = i.rows in
    let bytes = c.read.new.to in
    let done : is_ok c.read.result ≡ true = search rules in
    let told = is_wrong g (goal.at.returns-clause-told g c).After-show in
    let stands = stood_at old.geometry old.size c.args.row bytes (g.F.ByteFile.held old.file).bytes c.self.invariant.sized (rw (← c.self.view_is) at c.requires.in_range) (c.read.ensures.bytes done (rw (← c.self.view_is) at h)) in
    rw (← c.self.view_is) (ap (λ (w : Wrong). slice_set i.wrong.items c.args.row w) (told ∙ ap (wrong_with old.geometry) stands))
