use Rattle.std.proofs.Common.{refl, ap, arith}
use Rattle.std.specs.Prelude.{Result, Ok, Err, OnOk, OnErr, IsOk}
use Rattle.page_layout.proofs.source.ImageSlicePageSource.TheImpl.Goals as goal

on_ok : {T E : Type 0} (r : Result T E) (P : Type 0) → P → OnOk r P
on_ok (Ok x) P p = p
on_ok (Err e) P p = tt

on_no_err : {T E : Type 0} (r : Result T E) (P : Type 0) → IsOk r → OnErr r P
on_no_err (Ok x) P ok = tt
on_no_err (Err e) P ok = absurd (cc)

pub read_page-tells : goal.read_page-tells
read_page-tells g c = record {
  called = tt;
  page = on_ok c.result _ (λ _. c.ensures.page);
  same = on_ok c.result _ (λ _. c.ensures.same);
  whole = on_ok c.result _ (λ _. c.ensures.whole);
  recorded = on_ok c.result _ (λ _. refl);
  cut = on_no_err c.result _ c.ensures.never_fails;
  geometry = ap (λ f. f.geometry) c.ensures.same;
  honest = refl;
  calm = refl;
  reads = c.ensures.reads;
  programs = refl;
  erases = refl;
  failed = omega arith;
  rose = on_no_err c.result _ c.ensures.never_fails;
}
