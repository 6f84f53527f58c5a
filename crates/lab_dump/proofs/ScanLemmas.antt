-- A dump that a reader gives, page by page.
use Rattle.std.proofs.Common.{◌≡◌, ◌⊎◌, inl, inr, ℕ, List, Option, Some, None, IfSome, Result, Ok, Err, IfErr, OnErr, refl, sym, subst}
use Rattle.page_layout.specs.declared.geometry.Geometry.{Geometry}
use Rattle.page_layout.specs.Geometry.{row_count}
use Rattle.page_layout.specs.Page.{Image}
use Rattle.image_check.specs.declared.page_reader.Cut.{Cut}
use Rattle.image_check.specs.declared.page_reader.Cut.TheVariants.{Ended, Failed}
use Rattle.image_check.proofs.PageReaderLemmas.{cut_short, read_past}
use Rattle.lab_dump.specs.declared.pass.PassFault.{PassFault}
use Rattle.lab_dump.specs.declared.pass.PassFault.TheVariants as fault
use Rattle.lab_dump.specs.Scan.{image_bytes, HasMore, ReadsFewer, IsReadTo, IsUntakenByPass, pass_fault_of}
use Rattle.lab_dump.specs.declared.survey.SurveyFault.{SurveyFault}
use Rattle.lab_dump.specs.declared.survey.SurveyFault.TheVariants as surveys
use Rattle.lab_dump.specs.declared.compare.CompareFault.{CompareFault}
use Rattle.lab_dump.specs.declared.compare.CompareFault.TheVariants as compares
use Rattle.lab_dump.specs.Compared as compared
use Rattle.lab_dump.specs.Compared.{IsUncompared}
use Rattle.lab_dump.specs.Surveyed as surveyed
use Rattle.lab_dump.specs.Unmade as unmakes
use Rattle.lab_dump.specs.Unmade.{IsUnmade}
use Rattle.lab_dump.specs.declared.make_fault.MakeFault.TheVariants as makes
use Rattle.lab_dump.specs.Surveyed.{IsUnsurveyed}
pub use Rattle.image_check.proofs.PageReaderLemmas.{if_all, if_more, page_size, row_before}
pub use Rattle.image_check.proofs.PassLemmas.{err_map, ok_map, on_ok}
pub use Rattle.image_check.proofs.ReadLemmas.{at_end}

-- ---- known bytes

pub if_both : {X : Type 0} (o : Option X) (P Q R : X → Type 0) → IfSome o P → IfSome o Q → ((x : X) → P x → Q x → R x) → IfSome o R
if_both None P Q R p q both = tt
if_both (Some x) P Q R p q both = both x p q

pub err_all : {X Y : Type 0} (P : Type 0) (r : Result X Y) → P → OnErr r P
err_all P (Ok a) h = tt
err_all P (Err x) h = h

-- ---- why a dump was not taken

source_untaken : (g : Geometry) (a : Option (List ℕ)) → IfSome a (IsUntakenByPass g fault.Source)
source_untaken g a = if_all a (IsUntakenByPass g fault.Source) (λ bytes. tt)

pub cut_untaken : (g : Geometry) (a b : Option (List ℕ)) (cut : Cut) (f : PassFault) → ReadsFewer (image_bytes g) a b cut → f ≡ pass_fault_of cut → IfSome a (IsUntakenByPass g f)
cut_untaken g a b Ended f h e = subst (λ (x : PassFault). IfSome a (IsUntakenByPass g x)) (sym e) (cut_short g a b h)
cut_untaken g a b Failed f h e = subst (λ (x : PassFault). IfSome a (IsUntakenByPass g x)) (sym e) (source_untaken g a)

pub stopped_untaken : (g : Geometry) (a : Option (List ℕ)) (f : PassFault) → f ≡ fault.Stopped → IfSome a (IsUntakenByPass g f)
stopped_untaken g a f e = subst (λ (x : PassFault). IfSome a (IsUntakenByPass g x)) (sym e) (if_all a (IsUntakenByPass g fault.Stopped) (λ bytes. tt))

-- all rows were read where so many were and there are no more
pub read_all : (g : Geometry) (row : ℕ) (a b : Option (List ℕ)) (shows : ℕ → Image → Type 0) → row ≡ row_count g → IsReadTo g row a b (shows row) → IsReadTo g (row_count g) a b (shows (row_count g))
read_all g row a b shows all read = subst (λ n. IsReadTo g n a b (shows n)) all read

pub end_untaken : (g : Geometry) (a b : Option (List ℕ)) (shows : Image → Type 0) (f : PassFault) → IsReadTo g (row_count g) a b shows → (f ≡ fault.Source) ⊎ ((f ≡ fault.WrongLength) × HasMore b) → IfSome a (IsUntakenByPass g f)
end_untaken g a b shows f h (inl e) = subst (λ (x : PassFault). IfSome a (IsUntakenByPass g x)) (sym e) (source_untaken g a)
end_untaken g a b shows f h (inr w) = subst (λ (x : PassFault). IfSome a (IsUntakenByPass g x)) (sym w.0) (read_past g a b shows h w.1)

-- ---- which fault it was

pub never_err : {T E : Type 0} (r : Result T E) (x : T) (e : E) → r ≡ Ok x → r ≡ Err e → ⊥
never_err r x e was is = (let never : ⊥ = cc in never)

pub cut_source : {T : Type 0} (r : Result T PassFault) (cut : Cut) → r ≡ Err (pass_fault_of cut) → r ≡ Err fault.Source → cut ≡ Failed
cut_source r Ended was is = (let never : ⊥ = cc in absurd never)
cut_source r Failed was is = refl

pub cut_no_stop : {T : Type 0} (r : Result T PassFault) (cut : Cut) → r ≡ Err (pass_fault_of cut) → r ≡ Err fault.Stopped → ⊥
cut_no_stop r Ended was is = (let never : ⊥ = cc in never)
cut_no_stop r Failed was is = (let never : ⊥ = cc in never)

pub stop_no_source : {T : Type 0} (r : Result T PassFault) → r ≡ Err fault.Stopped → r ≡ Err fault.Source → ⊥
stop_no_source r was is = (let never : ⊥ = cc in never)

pub end_no_stop : {T : Type 0} (r : Result T PassFault) (H : Type 0) → IfErr r (λ f. (f ≡ fault.Source) ⊎ ((f ≡ fault.WrongLength) × H)) → r ≡ Err fault.Stopped → ⊥
end_no_stop (Ok a) H h is = (let never : ⊥ = cc in never)
end_no_stop (Err f) H (inl e) is = (let never : ⊥ = cc in never)
end_no_stop (Err f) H (inr w) is = (let e = w.0 in let never : ⊥ = cc in never)

-- ---- where what takes the pages never stops

pub unsurveyed : (g : Geometry) (a : Option (List ℕ)) (f : PassFault) → IfSome a (IsUntakenByPass g f) → IfSome a (IsUnsurveyed g (surveyed.survey_fault_of f))
unsurveyed g a fault.WrongLength h = h
unsurveyed g a fault.Source h = h
unsurveyed g a fault.Stopped h = h

pub survey_source : {T U : Type 0} (P : Type 0) (r : Result T PassFault) (f : PassFault) (q : Result U SurveyFault) → r ≡ Err f → (r ≡ Err fault.Source → P) → (r ≡ Err fault.Stopped → ⊥) → q ≡ Err (surveyed.survey_fault_of f) → q ≡ Err surveys.Source → P
survey_source P r fault.WrongLength q was source stopped e is = (let never : ⊥ = cc in absurd never)
survey_source P r fault.Source q was source stopped e is = source was
survey_source P r fault.Stopped q was source stopped e is = absurd (stopped was)

pub uncompared : (g : Geometry) (a : Option (List ℕ)) (f : PassFault) → IfSome a (IsUntakenByPass g f) → IfSome a (IsUncompared g (compared.compare_fault_of f))
uncompared g a fault.WrongLength h = h
uncompared g a fault.Source h = h
uncompared g a fault.Stopped h = h

pub compare_source : {T U : Type 0} (P : Type 0) (r : Result T PassFault) (f : PassFault) (q : Result U CompareFault) → r ≡ Err f → (r ≡ Err fault.Source → P) → (r ≡ Err fault.Stopped → ⊥) → q ≡ Err (compared.compare_fault_of f) → q ≡ Err compares.Source → P
compare_source P r fault.WrongLength q was source stopped e is = (let never : ⊥ = cc in absurd never)
compare_source P r fault.Source q was source stopped e is = source was
compare_source P r fault.Stopped q was source stopped e is = absurd (stopped was)

pub compare_no_differs : {T : Type 0} (f : PassFault) (q : Result T CompareFault) → q ≡ Err (compared.compare_fault_of f) → q ≡ Err compares.GeometryDiffers → ⊥
compare_no_differs fault.WrongLength q e is = (let never : ⊥ = cc in never)
compare_no_differs fault.Source q e is = (let never : ⊥ = cc in never)
compare_no_differs fault.Stopped q e is = (let never : ⊥ = cc in never)

pub differs_no_source : {T : Type 0} (q : Result T CompareFault) → q ≡ Err compares.GeometryDiffers → q ≡ Err compares.Source → ⊥
differs_no_source q was is = (let never : ⊥ = cc in never)

-- ---- where it may stop since a write failed

pub unmade : (g : Geometry) (a : Option (List ℕ)) (f : PassFault) → IfSome a (IsUntakenByPass g f) → IfSome a (IsUnmade g (unmakes.make_fault_of f))
unmade g a fault.WrongLength h = h
unmade g a fault.Source h = h
unmade g a fault.Stopped h = h

pub make_source : (f : PassFault) → unmakes.make_fault_of f ≡ makes.Source → f ≡ fault.Source
make_source fault.WrongLength e = (let never : ⊥ = cc in absurd never)
make_source fault.Source e = refl
make_source fault.Stopped e = (let never : ⊥ = cc in absurd never)

pub make_target : (f : PassFault) → unmakes.make_fault_of f ≡ makes.Target → f ≡ fault.Stopped
make_target fault.WrongLength e = (let never : ⊥ = cc in absurd never)
make_target fault.Source e = (let never : ⊥ = cc in absurd never)
make_target fault.Stopped e = refl
