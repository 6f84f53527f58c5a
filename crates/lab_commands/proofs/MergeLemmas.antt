-- What the command `merge` comes to.
use Rattle.std.proofs.Common.{◌≡◌, ◌≢◌, inl, inr, ℕ, zero, suc, ◌+◌, ◌<◌, Bool, true, false, List, [], ◌∷◌, ◌++◌, length, get_or, map, Option, None, option_map, refl, ap, sym, subst, ◌∙◌, arith}
use Rattle.std.proofs.lemmas.Bool.{cases_eq}
use Rattle.std.proofs.lemmas.List.{get_or-map, get_or_append_left, get_or_push, length-map, length_push, map-append}
use Rattle.std.specs.Borrow.{Bor}
use Rattle.page_layout.specs.declared.geometry.Geometry.{Geometry}
use Rattle.lab_mend.specs.declared.merge.MergeFault.{MergeFault}
use Rattle.lab_mend.specs.declared.merge.MergeFault.TheVariants as merge
use Rattle.lab_dump.specs.Scan.{Tell}
use Rattle.lab_mend.specs.Merged.{IsOfReading, IsPinned, IsUnmerged}
use Rattle.lab_commands.specs.declared.words.MergeWords.{MergeWords}
use Rattle.program_words.specs.Met.{texts}
use Rattle.lab_commands.specs.declared.files.Standing.{Standing}
use Rattle.lab_commands.specs.declared.files.Standing.TheVariants as standing
use Rattle.lab_commands.specs.declared.text.LabFault.{LabFault}
use Rattle.lab_commands.specs.declared.text.LabFault.TheVariants as fault
use Rattle.lab_commands.specs.Files.{AnswersNoMore, IsFileOpened, StandsAtPath, Store, StoreAnswers, after_opens}
use Rattle.lab_commands.specs.Undone.{IsKeptThere, IsUnread, IsUnwritten}
use Rattle.lab_commands.specs.Merge.{AreOpened, AreOpenedBelow, AreOthersBelow, HasSame, IsOfFailed, IsSomeUnread, IsUnmergedTo, MayNotMerge, TellsFault, dumps_of}
use Rattle.lab_commands.proofs.UndoneLemmas.{no_more_then, opened_before, unread_before}

-- ---- the paths

path_at : (ds : List (Bor (List ℕ))) (n : ℕ) (d : Bor (List ℕ)) → n < length ds → get_or (texts ds) n [] ≡ (get_or ds n d).now
path_at ds n d l = get_or-map (λ (w : Bor (List ℕ)). w.now) ds n d [] l

pub paths_count : (ds : List (Bor (List ℕ))) → length (texts ds) ≡ length ds
paths_count ds = length-map ds (λ (w : Bor (List ℕ)). w.now)

-- ---- the readers

added : (a : StoreAnswers) (paths : List (List ℕ)) (known : List (Option (List ℕ))) (n : ℕ) (one : Option (List ℕ)) → AreOpenedBelow a paths known n → IsFileOpened a (get_or paths n []) one → AreOpenedBelow a paths (known ++ one ∷ []) (n + 1)
added a paths known n one h opened = record {
  count = length_push known one ∙ ap (λ k. k + 1) h.count;
  each = λ i l. elim (cases_eq i n) [
    | inl same ↦ subst (λ k. IsFileOpened a (get_or paths k []) (get_or (known ++ one ∷ []) k None)) (sym same)
        (subst (IsFileOpened a (get_or paths n [])) (sym (get_or_push known one None n h.count)) opened)
    | inr ne ↦ subst (IsFileOpened a (get_or paths i [])) (sym (get_or_append_left known (one ∷ []) None i (let size = h.count in omega arith))) (h.each i (omega arith))
  ];
}

-- one reader more
pub opened_more : {R : Type 0} (f : R → Option (List ℕ)) (a b : StoreAnswers) (ds : List (Bor (List ℕ))) (rs more : List R) (r : R) (n : ℕ) (d : Bor (List ℕ)) → n < length ds → AnswersNoMore a b → AreOpenedBelow a (texts ds) (map f rs) n → IsFileOpened b (get_or ds n d).now (f r)
    → more ≡ rs ++ r ∷ [] → AreOpenedBelow a (texts ds) (map f more) (n + 1)
opened_more f a b ds rs more r n d l no_more h opened are =
    let before : IsFileOpened a (get_or (texts ds) n []) (f r) = subst (λ (path : List ℕ). IsFileOpened a path (f r)) (sym (path_at ds n d l)) (opened_before a b (get_or ds n d).now (f r) no_more opened) in
    let pushed : map f more ≡ map f rs ++ f r ∷ [] = ap (map f) are ∙ map-append f rs (r ∷ []) in
    subst (λ (known : List (Option (List ℕ))). AreOpenedBelow a (texts ds) known (n + 1)) (sym pushed) (added a (texts ds) (map f rs) n (f r) h before)

pub unopened_at : (a b : StoreAnswers) (ds : List (Bor (List ℕ))) (n : ℕ) (d : Bor (List ℕ)) (told : LabFault) → n < length ds → AnswersNoMore a b → IsUnread b (get_or ds n d).now told → IsSomeUnread a (texts ds) told
unopened_at a b ds n d told l more k =
    let before : IsUnread a (get_or (texts ds) n []) told = subst (λ (path : List ℕ). IsUnread a path told) (sym (path_at ds n d l)) (unread_before a b (get_or ds n d).now told more k) in
    (n, (let count = paths_count ds in omega arith), before)

-- what holds once the first files of these paths were opened: of the files as they were and as they are, of the readers, and of the room for them
pub record AreOpenSoFar (a b : StoreAnswers) (before after : Option Store) (paths : List (List ℕ)) (known : List (Option (List ℕ))) (n had has : ℕ) : Type 0 where
  pub no_more : AnswersNoMore a b
  pub kept : after ≡ before
  pub opened : AreOpenedBelow a paths known n
  pub places : has ≡ had

-- and one more
pub opened_next : {R : Type 0} (f : R → Option (List ℕ)) (a b d : StoreAnswers) (before after later : Option Store) (ds : List (Bor (List ℕ))) (rs more : List R) (r : R) (n : ℕ) (w : Bor (List ℕ)) (had has room : ℕ) → n < length ds
    → AreOpenSoFar a b before after (texts ds) (map f rs) n had has → AnswersNoMore b d → later ≡ after → IsFileOpened b (get_or ds n w).now (f r) → more ≡ rs ++ r ∷ [] → room ≡ has
    → AreOpenSoFar a d before later (texts ds) (map f more) (n + 1) had room
opened_next f a b d before after later ds rs more r n w had has room l h next same opened are wide = record {
  no_more = no_more_then a b d h.no_more next;
  kept = same ∙ h.kept;
  opened = opened_more f a b ds rs more r n w l h.no_more h.opened opened are;
  places = wide ∙ h.places;
}

-- one more was opened
pub opens_next : (n : ℕ) (opens now later : Option ℕ) → now ≡ after_opens n opens → later ≡ option_map suc now → later ≡ after_opens (n + 1) opens
opens_next n opens now later before one = let next : suc n ≡ n + 1 = omega arith in one ∙ (ap (option_map suc) before ∙ ap (λ k. after_opens k opens) next)

-- each reader that has failed says that a read did
abbrev pub TellsFailing : {R : Type 0} → (R → Bool) → Type 0 → Type 0
TellsFailing {R} failed reads = (reader : R) → failed reader ≡ true → reads

-- a reader that has failed, where one of a list has
pub failed_one : {R : Type 0} (f : R → Bool) (rs : List R) (i : ℕ) → get_or (map f rs) i false ≡ true → (r : R) × (f r ≡ true)
failed_one f [] i is = absurd (let clash : false ≡ true = is in cc)
failed_one f (r ∷ rs) zero is = (r, is)
failed_one f (r ∷ rs) (suc i) is = failed_one f rs i is

-- ---- whether OUT may be written

pub others_more : (a : StoreAnswers) (ds : List (Bor (List ℕ))) (out : List ℕ) (n : ℕ) (d : Bor (List ℕ)) (answer : Bool) → n < length ds → AreOthersBelow a (texts ds) out n → a.says_same (get_or ds n d).now out answer → answer ≡ false → AreOthersBelow a (texts ds) out (n + 1)
others_more a ds out n d answer within h said is =
    let last : a.says_same (get_or (texts ds) n []) out false = subst (λ (path : List ℕ). a.says_same path out false) (sym (path_at ds n d within)) (subst (λ (b : Bool). a.says_same (get_or ds n d).now out b) is said) in
    λ i l. elim (cases_eq i n) [
      | inl same ↦ subst (λ k. a.says_same (get_or (texts ds) k []) out false) (sym same) last
      | inr ne ↦ h i (omega arith)
    ]

pub unasked_out : (a : StoreAnswers) (words : MergeWords) (told : LabFault) → IsUnwritten a words.out.now told → MayNotMerge a words told
unasked_out a words fault.OutOfMemory k = inl k
unasked_out a words (fault.Write word) k = inl k
unasked_out a words _ k = absurd k

pub unasked_dumps : (a : StoreAnswers) (words : MergeWords) (told : LabFault) → StandsAtPath a words.out.now → IsSomeUnread a (dumps_of words) told → MayNotMerge a words told
unasked_dumps a words fault.OutOfMemory stands k = inr (stands, k)
unasked_dumps a words (fault.Read word) stands k = inr (stands, k)
unasked_dumps a words _ stands k = absurd k.2

-- what stands at OUT, and is no dump, is not replaced
pub merge_kept_there : (a : StoreAnswers) (words : MergeWords) (what : Standing) (told : LabFault) → a.says words.out.now what → what ≢ standing.Nothing → HasSame a (dumps_of words) words.out.now false → IsKeptThere what words.force told → MayNotMerge a words told
merge_kept_there a words what fault.Exists said some other k = ((what, some, said), other, k)
merge_kept_there a words what fault.NoFile said some other k = (subst (λ w. a.says words.out.now w) k.0 said, other, k.1)
merge_kept_there a words what _ said some other k = absurd k

-- ---- the dumps and OUT

-- a read that failed is told with the path of a reader that has
pub told_of_failed : (paths : List (List ℕ)) (out : List ℕ) (failed : List Bool) (target : Bool) (f : MergeFault) (told : LabFault) → IsPinned failed target f → TellsFault f paths out told → IsOfFailed failed paths told
told_of_failed paths out failed target (merge.WrongLength i) (fault.DumpLength word) pinned is = tt
told_of_failed paths out failed target (merge.Source i) (fault.Read word) pinned is = (i, sym is, pinned)
told_of_failed paths out failed target merge.Target (fault.Write word) pinned is = tt
told_of_failed paths out failed target _ _ pinned is = absurd is

pub unmerged_as : (a : StoreAnswers) (paths : List (List ℕ)) (g : Geometry) (out : List ℕ) (known : List (Option (List ℕ))) (f : MergeFault) (told : LabFault) → AreOpened a paths known → IsOfReading (length paths) f
    → ((files : List (List ℕ)) → Tell known files → IsUnmerged g files f) → ((i : ℕ) → f ≡ merge.Source i → a.reads_fail) → (f ≡ merge.Target → a.writes_fail) → TellsFault f paths out told → IsUnmergedTo a paths g out told
unmerged_as a paths g out known (merge.WrongLength i) (fault.DumpLength word) opened of h reads writes is = record { known = known; opened = opened; place = i; within = of; named = sym is; first = h }
unmerged_as a paths g out known (merge.Source i) (fault.Read word) opened of h reads writes is = ((i, of, sym is), (known, opened), reads i refl)
unmerged_as a paths g out known merge.Target (fault.Write word) opened of h reads writes is = (is, (known, opened), writes refl)
unmerged_as a paths g out known _ _ opened of h reads writes is = absurd is
