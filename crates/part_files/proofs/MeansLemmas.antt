-- WHAT MAKING A PART AND NAMING IT MEANS FOR THE NAMES.
use Rattle.std.proofs.Common.{◌≡◌, ◌≢◌, ◌⊎◌, ℕ, List, Option, None, refl, subst, sym, ap, ◌∙◌, inl, inr, ⊎_elim}
use Rattle.part_files.specs.declared.names.PartFault.{PartFault}
use Rattle.part_files.specs.declared.names.PartFault.TheVariants.{InUse, Exists, OutOfMemory, Failed}
use Rattle.part_files.specs.Names.{AskedOfNames, Came, and_one}
use Rattle.part_files.specs.Names.NameCall.{Make, Claim, Remove, Link, Rename, SyncFolder}
use Rattle.part_files.specs.Names.Came.{Done, Told, Refused}
use Rattle.part_files.specs.Parts.{RemakesNot, RemadeNot, MakesPart, MakesNone, Settles, Replaces, GivesBack, TakesName, TakesNot, Unlinked, Publishes, PublishesNot}
use Rattle.part_files.specs.Folder.{Folder, KeepsNames, PutsNew, PutsLink, MovesFile, Effect}
use Rattle.part_files.specs.FolderLaws.{IsPartMade, IsMoved, IsPublished, IsUnpublished, MakesPartLaw, MakesNoneLaw, PublishesLaw, PublishesNotLaw, ReplacesLaw}
use Rattle.part_files.proofs.FolderLemmas.{Acts, acts_law, acts_weaker, acts_then, acts_one, acts_two, acts_three, acts_held, at}

-- ---- a part

part_made : (part : List ℕ) (start finish : Folder) → PutsNew part start finish → IsPartMade part start finish
part_made part start finish made =
    record {
      only = record { file = made.file; has = made.has; alone = λ other apart has. made.unnamed other (sym (made.others other apart) ∙ has) };
      others = made.others;
    }

acts_made : (part : List ℕ) (before after : Option (List AskedOfNames)) → MakesPart part before after → Acts (IsPartMade part) before after
acts_made part before after =
    ⊎_elim (λ made. acts_weaker (IsPartMade part) (part_made part) (acts_one (Make part) Done before after made))
    (λ again. acts_weaker (IsPartMade part)
    (λ start finish all.
    let made = part_made part all.2.2.0 finish all.2.2.2 in
    record { only = made.only; others = λ other apart. made.others other apart ∙ all.2.2.1.1 other apart ∙ at other all.2.1.1 ∙ at other all.1.1 })
    (acts_then (acts_one (Make part) (Refused Exists) before (and_one before (Make part) (Refused Exists)) refl)
    (acts_held (Claim part) (acts_two (Remove part) (Make part) Done Done _ again.last again.within) again.let_go)))

pub makes_part : MakesPartLaw
makes_part part before after start finish asks leads = acts_law (acts_made part before after asks) leads

-- a name that was not made has what it had, or a new file that no name had
made_not : (name : List ℕ) (fault : PartFault) (start finish : Folder) → Effect (Make name) (Refused fault) start finish → (finish ≡ start) ⊎ PutsNew name start finish
made_not name Exists start finish effect = inl effect.1
made_not name InUse start finish effect = effect
made_not name OutOfMemory start finish effect = effect
made_not name Failed start finish effect = effect

keeps_made_not : (name : List ℕ) (fault : PartFault) (start finish : Folder) → Effect (Make name) (Refused fault) start finish → KeepsNames name start finish
keeps_made_not name fault start finish effect = ⊎_elim (λ same other apart. at other same) (λ made. made.others) (made_not name fault start finish effect)

acts_remade_not : (part : List ℕ) (fault : PartFault) (before after : Option (List AskedOfNames)) → RemadeNot part fault before after → Acts (KeepsNames part) before after
acts_remade_not part fault before after =
    ⊎_elim (λ stays. acts_weaker (KeepsNames part) (λ start finish same other apart. at other same) (acts_one (Remove part) (Refused fault) before after stays))
    (λ lost. acts_weaker (KeepsNames part) (λ start finish all other apart. keeps_made_not part fault all.0 finish all.2 other apart ∙ all.1.1 other apart)
    (acts_two (Remove part) (Make part) Done (Refused fault) before after lost))

acts_remakes_not : (part : List ℕ) (fault : PartFault) (before after : Option (List AskedOfNames)) → RemakesNot part fault before after → Acts (KeepsNames part) before after
acts_remakes_not part fault before after =
    ⊎_elim (λ unheld. acts_weaker (KeepsNames part) (λ start finish same other apart. at other same) (acts_one (Claim part) (Refused fault) before after unheld))
    (λ held. acts_weaker (KeepsNames part) (λ start finish all other apart. all.2 other apart ∙ at other all.1.1)
    (acts_held (Claim part) (acts_remade_not part fault _ held.last held.within) held.let_go))

acts_made_none : (part : List ℕ) (fault : PartFault) (before after : Option (List AskedOfNames)) → MakesNone part fault before after → Acts (KeepsNames part) before after
acts_made_none part fault before after =
    ⊎_elim (λ none. acts_weaker (KeepsNames part) (keeps_made_not part fault) (acts_one (Make part) (Refused fault) before after none.1))
    (λ found. acts_weaker (KeepsNames part) (λ start finish all other apart. all.2 other apart ∙ at other all.1.1)
    (acts_then (acts_one (Make part) (Refused Exists) before (and_one before (Make part) (Refused Exists)) refl) (acts_remakes_not part found.found _ after found.calls)))

pub makes_none : MakesNoneLaw
makes_none part fault before after start finish asks leads = acts_law (acts_made_none part fault before after asks) leads

-- ---- its name

-- a name that was to be removed has nothing, or what it had
pub removed_or_not : (name : List ℕ) (came : Came) (start finish : Folder) → Effect (Remove name) came start finish → ((finish name ≡ None) ⊎ (finish name ≡ start name)) × KeepsNames name start finish
removed_or_not name Done start finish effect = (inl effect.0, effect.1)
removed_or_not name (Told answer) start finish effect = (inr (at name effect), λ other apart. at other effect)
removed_or_not name (Refused fault) start finish effect = (inr (at name effect), λ other apart. at other effect)

-- by a link, which is settled
settled_link : (part path : List ℕ) (removed : Came) (start linked synced lost finish : Folder) → PutsLink part path start linked → synced ≡ linked → Effect (Remove part) removed synced lost → finish ≡ lost →
    IsPublished part path start finish
settled_link part path removed start linked synced lost finish link same effect last =
    let gone = removed_or_not part removed synced lost effect in
    let apart : part ≢ path = λ e. link.there (ap start e ∙ link.free) in
    record {
      free = link.free;
      moved =
          record {
            has = at path last ∙ gone.1 path (λ e. apart (sym e)) ∙ at path same ∙ link.has;
            part_is = ⊎_elim (λ none. inl (at part last ∙ none)) (λ stays. inr (at part last ∙ stays ∙ at part same ∙ link.others part apart)) gone.0;
            others = λ name one two. at name last ∙ gone.1 name one ∙ at name same ∙ link.others name two;
          };
    }

acts_settles : (part path : List ℕ) (before after : Option (List AskedOfNames)) → Settles part path (and_one before (Link part path) Done) after → Acts (IsPublished part path) before after
acts_settles part path before after settles =
    acts_weaker (IsPublished part path) (λ start finish all. settled_link part path settles.removed start all.0 all.2.0 all.2.2.0 finish all.1 all.2.1 all.2.2.1 all.2.2.2)
    (acts_then (acts_one (Link part path) Done before (and_one before (Link part path) Done) refl)
    (acts_three (SyncFolder path) (Remove part) (SyncFolder path) settles.first settles.removed settles.second _ after settles.calls))

-- a part that is renamed
moved : (part path : List ℕ) (start finish : Folder) → ((start part ≡ start path) × (finish ≡ start)) ⊎ MovesFile part path start finish → IsMoved part path start finish
moved part path start finish =
    ⊎_elim (λ same. record { has = at path same.1 ∙ sym same.0; part_is = inr (at part same.1); others = λ name one two. at name same.1 })
    (λ moves. record { has = moves.has; part_is = inl moves.gone; others = moves.others })

pub acts_replaces : (part path : List ℕ) (before after : Option (List AskedOfNames)) → Replaces part path before after → Acts (IsMoved part path) before after
acts_replaces part path before after replaces =
    acts_weaker (IsMoved part path) (λ start finish all. subst (IsMoved part path start) (sym all.2) (moved part path start all.0 all.1))
    (acts_two (Rename part path) (SyncFolder path) Done replaces.synced before after replaces.calls)

pub replaces : ReplacesLaw
replaces part path before after start finish asks leads = acts_law (acts_replaces part path before after asks) leads

-- by a new file that takes the name
taken : (part path : List ℕ) (start unlinked made finish : Folder) → unlinked ≡ start → PutsNew path unlinked made → IsMoved part path made finish → start part ≢ None → IsPublished part path start finish
taken part path start unlinked made finish same new moved there =
    let free : start path ≡ None = sym (at path same) ∙ new.free in
    let apart : part ≢ path = λ e. there (ap start e ∙ free) in
    record {
      free = free;
      moved =
          record {
            has = moved.has ∙ new.others part apart ∙ at part same;
            part_is = ⊎_elim (λ none. inl none) (λ stays. inr (stays ∙ new.others part apart ∙ at part same)) moved.part_is;
            others = λ name one two. moved.others name one two ∙ new.others name two ∙ at name same;
          };
    }

pub acts_takes : (part path : List ℕ) (before after : Option (List AskedOfNames)) → Unlinked part path (TakesName part path) before after →
    Acts (λ start finish. start part ≢ None → IsPublished part path start finish) before after
acts_takes part path before after takes =
    acts_weaker (λ start finish. start part ≢ None → IsPublished part path start finish)
    (λ start finish all there. taken part path start all.0 all.2.0 finish all.1 all.2.1 all.2.2 there)
    (acts_then (acts_one (Link part path) (Refused takes.refused) before (and_one before (Link part path) (Refused takes.refused)) refl)
    (acts_held (Make path) (acts_replaces part path _ takes.calls.last takes.calls.within) takes.calls.let_go))

pub acts_publishes : (part path : List ℕ) (before after : Option (List AskedOfNames)) → Publishes part path before after →
    Acts (λ start finish. start part ≢ None → IsPublished part path start finish) before after
acts_publishes part path before after =
    ⊎_elim
    (λ settles. acts_weaker (λ start finish. start part ≢ None → IsPublished part path start finish) (λ start finish is there. is) (acts_settles part path before after settles))
    (acts_takes part path before after)

pub publishes : PublishesLaw
publishes part path before after start finish asks leads = acts_law (acts_publishes part path before after asks) leads

-- ---- no name

unchanged : (part path : List ℕ) (start finish : Folder) → finish ≡ start → IsUnpublished part path start finish
unchanged part path start finish same = record { part_is = at part same; path_is = inl (at path same); others = λ name apart. at name same }

-- the path had no file, and no other name was changed
unnamed : (part path : List ℕ) (start finish : Folder) → start path ≡ None → KeepsNames path start finish → start part ≢ None → IsUnpublished part path start finish
unnamed part path start finish free keeps there = record { part_is = keeps part (λ e. there (ap start e ∙ free)); path_is = inr free; others = keeps }

acts_given_back : (part path : List ℕ) (fault : PartFault) (before after : Option (List AskedOfNames)) → GivesBack part path fault before after → Acts (KeepsNames path) before after
acts_given_back part path fault before after gives =
    acts_weaker (KeepsNames path) (λ start finish all other apart. (removed_or_not path gives.removed all.0 finish all.2).1 other apart ∙ at other all.1)
    (acts_two (Rename part path) (Remove path) (Refused fault) gives.removed before after gives.calls)

acts_takes_not : (part path : List ℕ) (fault : PartFault) (before after : Option (List AskedOfNames)) → TakesNot part path fault before after →
    Acts (λ start finish. start part ≢ None → IsUnpublished part path start finish) before after
acts_takes_not part path fault before after =
    ⊎_elim
    (λ none. acts_weaker (λ start finish. start part ≢ None → IsUnpublished part path start finish)
    (λ start finish effect there. ⊎_elim (unchanged part path start finish) (λ made. unnamed part path start finish made.free made.others there) (made_not path fault start finish effect))
    (acts_one (Make path) (Refused fault) before after none))
    (λ held. acts_weaker (λ start finish. start part ≢ None → IsUnpublished part path start finish)
    (λ start finish all there. unnamed part path start finish all.1.free (λ other apart. all.2 other apart ∙ all.1.others other apart) there)
    (acts_held (Make path) (acts_given_back part path fault _ held.last held.within) held.let_go))

pub acts_publishes_not : (part path : List ℕ) (fault : PartFault) (before after : Option (List AskedOfNames)) → PublishesNot part path fault before after →
    Acts (λ start finish. start part ≢ None → IsUnpublished part path start finish) before after
acts_publishes_not part path fault before after =
    ⊎_elim
    (λ ends. acts_weaker (λ start finish. start part ≢ None → IsUnpublished part path start finish) (λ start finish same there. unchanged part path start finish same)
    (acts_one (Link part path) (Refused fault) before after ends.1))
    (λ takes. acts_weaker (λ start finish. start part ≢ None → IsUnpublished part path start finish)
    (λ start finish all. subst (λ names. names part ≢ None → IsUnpublished part path names finish) all.1 all.2)
    (acts_then (acts_one (Link part path) (Refused takes.refused) before (and_one before (Link part path) (Refused takes.refused)) refl) (acts_takes_not part path fault _ after takes.calls)))

pub publishes_not : PublishesNotLaw
publishes_not part path fault before after start finish asks leads = acts_law (acts_publishes_not part path fault before after asks) leads
