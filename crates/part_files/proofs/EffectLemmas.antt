-- WHAT EACH CALL MAKES OF NAMES, worked out.
use Rattle.std.proofs.Common.{◌≡◌, ◌≢◌, ◌⊎◌, Bool, true, false, ℕ, List, Option, None, Some, refl, sym, ap, ◌∙◌, inl, inr, ⊎_elim}
use Rattle.std.specs.Prelude.{if◌then◌else◌}
use Rattle.std.specs.Str.{bytes_eq}
use Rattle.std.proofs.lemmas.Slice.Eq.{bytes_eq-Decides}
use Rattle.part_files.specs.declared.names.PartFault.{PartFault}
use Rattle.part_files.specs.declared.names.PartFault.TheVariants.{InUse, Exists, OutOfMemory, Failed}
use Rattle.part_files.specs.Names.{NameCall}
use Rattle.part_files.specs.Names.NameCall.{Make, Claim, Remove, Link, Rename, SyncFolder, LetGo, IsThere, IsOneFile, HasOneName}
use Rattle.part_files.specs.Names.Came.{Done, Refused}
use Rattle.part_files.specs.Folder.{Folder, Effect, KeepsNames, MovesFile}
use Rattle.part_files.specs.CallLaws.{with_name, MakesFileLaw, ExistsLaw, ClaimsLaw, RemovesLaw, LinksLaw, RenamesLaw, RenamesNoneLaw, RefusedCallLaw, RefusedMakeLaw, ThereLaw, OneFileLaw, OneNameLaw, LeadsThereLaw}
use Rattle.part_files.proofs.FolderLemmas.{at}

-- ---- two names are one, or are not

by_test : (xs ys : List ℕ) (b : Bool) → bytes_eq xs ys ≡ b → (xs ≡ ys) ⊎ ((xs ≢ ys) × (bytes_eq xs ys ≡ false))
by_test xs ys true e = inl ((bytes_eq-Decides xs ys).0 e)
by_test xs ys false e = inr ((λ same. let yes : bytes_eq xs ys ≡ true = (bytes_eq-Decides xs ys).1 same in let no : ⊥ = cc in no), e)

one_name : (xs ys : List ℕ) → (xs ≡ ys) ⊎ ((xs ≢ ys) × (bytes_eq xs ys ≡ false))
one_name xs ys = by_test xs ys (bytes_eq xs ys) refl

other_name : (xs ys : List ℕ) → xs ≢ ys → bytes_eq xs ys ≡ false
other_name xs ys apart = ⊎_elim (λ same. absurd (apart same)) (λ no. no.1) (one_name xs ys)

-- ---- one name is changed

with_same : (name : List ℕ) (file : Option ℕ) (names : Folder) → with_name name file names name ≡ file
with_same name file names = ap (λ b. if b then file else names name) ((bytes_eq-Decides name name).1 refl)

with_other : (name other : List ℕ) (file : Option ℕ) (names : Folder) → other ≢ name → with_name name file names other ≡ names other
with_other name other file names apart = ap (λ b. if b then file else names other) (other_name other name apart)

-- names are these where they agree at that name and at each other
are_with : (name : List ℕ) (file : Option ℕ) (names finish : Folder) → finish name ≡ file → KeepsNames name names finish → (other : List ℕ) → finish other ≡ with_name name file names other
are_with name file names finish has others other =
    ⊎_elim (λ same. ap finish same ∙ (has ∙ (sym (with_same name file names) ∙ ap (with_name name file names) (sym same))))
    (λ apart. others other apart.0 ∙ sym (with_other name other file names apart.0)) (one_name other name)

-- ---- the laws

pub makes_file : MakesFileLaw
makes_file name before free = record {
  does = λ file unnamed. record { file = file; free = free; unnamed = unnamed; has = with_same name (Some file) before; others = λ other apart. with_other name other (Some file) before apart };
  only = λ finish made. (made.file, made.unnamed, are_with name (Some made.file) before finish made.has made.others);
}

pub exists : ExistsLaw
exists name before there = record { does = (there, refl); only = λ finish effect other. at other effect.1 }

pub claims : ClaimsLaw
claims name before there = record { does = (there, refl); only = λ finish effect other. at other effect.1 }

pub removes : RemovesLaw
removes name before = record {
  does = (with_same name None before, λ other apart. with_other name other None before apart);
  only = λ finish effect. are_with name None before finish effect.0 effect.1;
}

pub links : LinksLaw
links from to before there free = record {
  does = record { there = there; free = free; has = with_same to (before from) before; others = λ other apart. with_other to other (before from) before apart };
  only = λ finish link. are_with to (before from) before finish link.has link.others;
}

moved : (from to : List ℕ) (before finish : Folder) → MovesFile from to before finish → (name : List ℕ) → finish name ≡ with_name to (before from) (with_name from None before) name
moved from to before finish moves = are_with to (before from) (with_name from None before) finish moves.has (λ other apart.
    ⊎_elim (λ same. ap finish same ∙ (moves.gone ∙ (sym (with_same from None before) ∙ ap (with_name from None before) (sym same))))
    (λ no. moves.others other no.0 apart ∙ sym (with_other from other None before no.0)) (one_name other from))

pub renames : RenamesLaw
renames from to before there differ =
    let left : Folder = with_name from None before in
    let apart : from ≢ to = λ same. differ (ap before same) in
    record {
      does = inr (record {
        there = there;
        other = differ;
        has = with_same to (before from) left;
        gone = with_other to from (before from) left apart ∙ with_same from None before;
        others = λ name no_from no_to. with_other to name (before from) left no_to ∙ with_other from name None before no_from;
      });
      only = λ finish effect. ⊎_elim (λ none. absurd (differ none.0)) (moved from to before finish) effect;
    }

pub renames_none : RenamesNoneLaw
renames_none from to before same = record {
  does = inl (same, refl);
  only = λ finish effect name. ⊎_elim (λ none. at name none.1) (λ moves. absurd (moves.other same)) effect;
}

-- what a call that was refused leaves is what there was, and that is left
refused_is : (call : NameCall) (fault : PartFault) → ((name : List ℕ) → call ≢ Make name) → (before after : Folder) → (Effect call (Refused fault) before after → after ≡ before) × (after ≡ before → Effect call (Refused fault) before after)
refused_is (Make name) fault none before after = absurd (none name refl)
refused_is (Claim name) fault none before after = (λ e. e, λ e. e)
refused_is (Remove name) fault none before after = (λ e. e, λ e. e)
refused_is (Link from to) fault none before after = (λ e. e, λ e. e)
refused_is (Rename from to) fault none before after = (λ e. e, λ e. e)
refused_is (SyncFolder name) fault none before after = (λ e. e, λ e. e)
refused_is LetGo fault none before after = (λ e. e, λ e. e)
refused_is (IsThere name) fault none before after = (λ e. e, λ e. e)
refused_is (IsOneFile first second) fault none before after = (λ e. e, λ e. e)
refused_is (HasOneName name) fault none before after = (λ e. e, λ e. e)

pub refused_call : RefusedCallLaw
refused_call call fault before none = record {
  does = (refused_is call fault none before before).1 refl;
  only = λ finish effect name. at name ((refused_is call fault none before finish).0 effect);
}

pub refused_make : RefusedMakeLaw
refused_make name Exists before finish other made = absurd (other refl)
refused_make name InUse before finish other made = (inr made, inl refl)
refused_make name OutOfMemory before finish other made = (inr made, inl refl)
refused_make name Failed before finish other made = (inr made, inl refl)

pub is_there : ThereLaw
is_there name before = (
  λ there. record { does = (there, refl); only = λ finish effect other. at other effect.1 },
  λ free. record { does = (free, refl); only = λ finish effect other. at other effect.1 },
)

pub one_file : OneFileLaw
one_file first second file before one two = record { does = (record { file = file; one = one; two = two }, refl); only = λ finish effect other. at other effect.1 }

pub has_one_name : OneNameLaw
has_one_name name file before has alone = record { does = (record { file = file; has = has; alone = alone }, refl); only = λ finish effect other. at other effect.1 }

pub leads_there : LeadsThereLaw
leads_there known calls start finish effects = record { known = known; more = calls; known_is = refl; more_is = refl; effects = effects }
