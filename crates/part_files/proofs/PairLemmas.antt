-- WHAT TAKING BACK AND NAMING TWO FILES MEANS FOR THE NAMES.
use Rattle.std.proofs.Common.{◌≡◌, ◌≢◌, true, false, ℕ, List, Option, None, subst, sym, ap, ◌∙◌, inl, inr, ⊎_elim}
use Rattle.part_files.specs.declared.names.PartFault.{PartFault}
use Rattle.part_files.specs.declared.pair.Pair.{Pair}
use Rattle.part_files.specs.Names.{AskedOfNames}
use Rattle.part_files.specs.Names.NameCall.{Claim, Remove, Link, SyncFolder, IsThere, IsOneFile, HasOneName}
use Rattle.part_files.specs.Names.Came.{Done, Told, Refused}
use Rattle.part_files.specs.Pairs.{LooksBegun, LooksNot, ClearsBeside, ClearsNot, ClaimsNot, TakesBack, TakesNotBack, NamesBeside, PublishesPair, PublishesHalf, PublishesNoPair}
use Rattle.part_files.specs.Folder.{Folder, KeepsNames, PutsLink, HaveOne, HasFileAlone}
use Rattle.part_files.specs.FolderLaws.{IsPublished, IsUnpublished, IsHalfNamed, IsTakenBack, IsPairReady, IsPairPublished, IsPairUnpublished, TakesBackLaw, TakesNotBackLaw, PublishesPairLaw, PublishesNoPairLaw}
use Rattle.part_files.proofs.FolderLemmas.{Acts, acts_law, acts_weaker, acts_then, acts_one, acts_two, acts_three, acts_held, at}
use Rattle.part_files.proofs.MeansLemmas.{acts_takes, acts_publishes, acts_publishes_not, removed_or_not}

abbrev SameNames : Folder → Folder → Type 0
SameNames start finish = finish ≡ start

-- ---- what was begun

acts_looks : (p : Pair) (before after : Option (List AskedOfNames)) → LooksBegun p true before after → Acts (λ start finish. (finish ≡ start) × IsHalfNamed p start) before after
acts_looks p before after looks =
    acts_weaker (λ start finish. (finish ≡ start) × IsHalfNamed p start)
    (λ start finish all. (
      all.2.2.1 ∙ all.2.1.1 ∙ all.1.1,
      record {
        free = all.1.0;
        linked = subst (HaveOne p.beside.now p.beside_part.now) all.1.1 all.2.1.0;
        unnamed = subst (HasFileAlone p.part.now) (all.2.1.1 ∙ all.1.1) all.2.2.0;
      },
    ))
    (acts_three (IsThere p.path.now) (IsOneFile p.beside.now p.beside_part.now) (HasOneName p.part.now) (Told false) (Told true) (Told true) before after looks)

acts_looks_off : (p : Pair) (before after : Option (List AskedOfNames)) → LooksBegun p false before after → Acts SameNames before after
acts_looks_off p before after =
    ⊎_elim (λ there. acts_weaker SameNames (λ start finish all. all.1) (acts_one (IsThere p.path.now) (Told true) before after there))
    (⊎_elim
    (λ two. acts_weaker SameNames (λ start finish all. all.2 ∙ all.1.1) (acts_two (IsThere p.path.now) (IsOneFile p.beside.now p.beside_part.now) (Told false) (Told false) before after two))
    (λ named. acts_weaker SameNames (λ start finish all. all.2.2 ∙ all.2.1.1 ∙ all.1.1)
    (acts_three (IsThere p.path.now) (IsOneFile p.beside.now p.beside_part.now) (HasOneName p.part.now) (Told false) (Told true) (Told false) before after named)))

acts_looks_not : (p : Pair) (fault : PartFault) (before after : Option (List AskedOfNames)) → LooksNot p fault before after → Acts SameNames before after
acts_looks_not p fault before after =
    ⊎_elim (λ one. acts_weaker SameNames (λ start finish all. all) (acts_one (IsThere p.path.now) (Refused fault) before after one))
    (⊎_elim
    (λ two. acts_weaker SameNames (λ start finish all. all.2 ∙ all.1.1) (acts_two (IsThere p.path.now) (IsOneFile p.beside.now p.beside_part.now) (Told false) (Refused fault) before after two))
    (λ three. acts_weaker SameNames (λ start finish all. all.2.2 ∙ all.2.1.1 ∙ all.1.1)
    (acts_three (IsThere p.path.now) (IsOneFile p.beside.now p.beside_part.now) (HasOneName p.part.now) (Told false) (Told true) (Refused fault) before after three)))

-- what comes after it was seen comes of the same names
acts_begun : {Means : Folder → Folder → Type 0} (p : Pair) {before seen after : Option (List AskedOfNames)} → LooksBegun p true before seen → Acts Means seen after →
    Acts (λ start finish. IsHalfNamed p start × Means start finish) before after
acts_begun {Means} p {before} {seen} looks more =
    acts_weaker (λ start finish. IsHalfNamed p start × Means start finish) (λ start finish all. (all.1.1, subst (λ names. Means names finish) all.1.0 all.2))
    (acts_then (acts_looks p before seen looks) more)

taken_same : (p : Pair) (start finish : Folder) → finish ≡ start → IsTakenBack p start finish
taken_same p start finish same = record { beside_is = inl (at p.beside.now same); others = λ name apart. at name same }

acts_clears : (p : Pair) (before after : Option (List AskedOfNames)) → ClearsBeside p before after → Acts (IsTakenBack p) before after
acts_clears p before after =
    ⊎_elim (λ off. acts_weaker (IsTakenBack p) (taken_same p) (acts_looks_off p before after off))
    (λ begun. acts_weaker (IsTakenBack p) (λ start finish all. record { beside_is = inr all.0; others = all.1.1 })
    (acts_begun p begun.looks (acts_one (Remove p.beside.now) Done begun.seen after begun.calls)))

acts_takes_back : (p : Pair) (before after : Option (List AskedOfNames)) → TakesBack p before after → Acts (IsTakenBack p) before after
acts_takes_back p before after =
    ⊎_elim (λ off. acts_weaker (IsTakenBack p) (taken_same p) (acts_looks_off p before after off))
    (λ begun. acts_weaker (IsTakenBack p) (λ start finish all. subst (λ names. IsTakenBack p names finish) all.1.1.1 all.1.2)
    (acts_begun p begun.looks (acts_held (Claim p.part.now) (acts_clears p _ begun.calls.last begun.calls.within) begun.calls.let_go)))

pub takes_back : TakesBackLaw
takes_back p before after start finish asks leads = acts_law (acts_takes_back p before after asks) leads

acts_clears_not : (p : Pair) (fault : PartFault) (before after : Option (List AskedOfNames)) → ClearsNot p fault before after → Acts SameNames before after
acts_clears_not p fault before after =
    ⊎_elim (acts_looks_not p fault before after)
    (λ begun. acts_weaker SameNames (λ start finish all. all.1) (acts_begun p begun.looks (acts_one (Remove p.beside.now) (Refused fault) begun.seen after begun.calls)))

acts_claims_not : (p : Pair) (fault : PartFault) (before after : Option (List AskedOfNames)) → ClaimsNot p fault before after → Acts SameNames before after
acts_claims_not p fault before after =
    ⊎_elim (λ unheld. acts_weaker SameNames (λ start finish all. all) (acts_one (Claim p.part.now) (Refused fault) before after unheld))
    (λ held. acts_weaker SameNames (λ start finish all. all.2 ∙ all.1.1) (acts_held (Claim p.part.now) (acts_clears_not p fault _ held.last held.within) held.let_go))

acts_takes_not_back : (p : Pair) (fault : PartFault) (before after : Option (List AskedOfNames)) → TakesNotBack p fault before after → Acts SameNames before after
acts_takes_not_back p fault before after =
    ⊎_elim (acts_looks_not p fault before after)
    (λ begun. acts_weaker SameNames (λ start finish all. all.1) (acts_begun p begun.looks (acts_claims_not p fault begun.seen after begun.calls)))

pub takes_not_back : TakesNotBackLaw
takes_not_back p fault before after start finish asks leads = acts_law (acts_takes_not_back p fault before after asks) leads

-- ---- both names

linked : (part beside : List ℕ) (start between finish : Folder) → PutsLink part beside start between → finish ≡ between → IsPublished part beside start finish
linked part beside start between finish link same =
    let apart : part ≢ beside = λ e. link.there (ap start e ∙ link.free) in
    record {
      free = link.free;
      moved =
          record {
            has = at beside same ∙ link.has;
            part_is = inr (at part same ∙ link.others part apart);
            others = λ name one two. at name same ∙ link.others name two;
          };
    }

acts_beside : (part beside : List ℕ) (before after : Option (List AskedOfNames)) → NamesBeside part beside before after → Acts (λ start finish. start part ≢ None → IsPublished part beside start finish) before after
acts_beside part beside before after =
    ⊎_elim
    (λ links. acts_weaker (λ start finish. start part ≢ None → IsPublished part beside start finish) (λ start finish all there. linked part beside start all.0 finish all.1 all.2)
    (acts_two (Link part beside) (SyncFolder beside) Done links.synced before after links.calls))
    (acts_takes part beside before after)

-- the part is there still, once the file beside is named
part_stays : (p : Pair) (start named : Folder) → IsPairReady p start → IsPublished p.beside_part.now p.beside.now start named → named p.part.now ≡ start p.part.now
part_stays p start named ready one = one.moved.others p.part.now ready.parts_apart ready.part_apart

pair_published : (p : Pair) (start named both finish : Folder) → IsPairReady p start → IsPublished p.beside_part.now p.beside.now start named → IsPublished p.part.now p.path.now named both →
    KeepsNames p.beside_part.now both finish → IsPairPublished p start finish
pair_published p start named both finish ready one two keeps =
    let part_is = part_stays p start named ready one in
    let path_free : start p.path.now ≡ None = sym (one.moved.others p.path.now ready.path_parts_apart ready.path_apart) ∙ two.free in
    let beside_apart : p.beside.now ≢ p.beside_part.now = λ e. ready.beside_part_there (sym (ap start e) ∙ one.free) in
    record {
      path_free = path_free;
      beside_free = one.free;
      path_is = keeps p.path.now ready.path_parts_apart ∙ two.moved.has ∙ part_is;
      beside_is = keeps p.beside.now beside_apart ∙ two.moved.others p.beside.now (λ e. ready.part_apart (sym e)) (λ e. ready.path_apart (sym e)) ∙ one.moved.has;
      others = λ name out. keeps name out.no_beside_part ∙ two.moved.others name out.no_part out.no_path ∙ one.moved.others name out.no_beside_part out.no_beside;
    }

acts_pair : (p : Pair) (before after : Option (List AskedOfNames)) → PublishesPair p before after → Acts (λ start finish. IsPairReady p start → IsPairPublished p start finish) before after
acts_pair p before after asks =
    acts_weaker (λ start finish. IsPairReady p start → IsPairPublished p start finish)
    (λ start finish all ready.
    let one = all.1 ready.beside_part_there in
    let there : all.0 p.part.now ≢ None = λ none. ready.part_there (sym (part_stays p start all.0 ready one) ∙ none) in
    pair_published p start all.0 all.2.0 finish ready one (all.2.1 there) (removed_or_not p.beside_part.now asks.last.removed all.2.0 finish all.2.2).1)
    (acts_then (acts_beside p.beside_part.now p.beside.now before asks.one asks.first)
    (acts_then (acts_publishes p.part.now p.path.now asks.one asks.both asks.second) (acts_one (Remove p.beside_part.now) asks.last.removed asks.both after asks.last.calls)))

pub publishes_pair : PublishesPairLaw
publishes_pair p before after start finish asks leads = acts_law (acts_pair p before after asks) leads

-- nothing was named
none_published : (p : Pair) (start finish : Folder) → IsPairReady p start → IsUnpublished p.beside_part.now p.beside.now start finish → IsPairUnpublished p start finish
none_published p start finish ready none =
    record {
      part_is = none.others p.part.now ready.part_apart;
      path_is = inl (none.others p.path.now ready.path_apart);
      beside_is = none.path_is;
      others = λ name out. none.others name out.no_beside;
    }

-- the first was, and lost its name again
half_published : (p : Pair) (start named both finish : Folder) → IsPairReady p start → IsPublished p.beside_part.now p.beside.now start named → IsUnpublished p.part.now p.path.now named both →
    KeepsNames p.beside.now both finish → IsPairUnpublished p start finish
half_published p start named both finish ready one two keeps =
    let path_stays = one.moved.others p.path.now ready.path_parts_apart ready.path_apart in
    record {
      part_is = keeps p.part.now ready.part_apart ∙ two.part_is ∙ part_stays p start named ready one;
      path_is = ⊎_elim (λ stays. inl (keeps p.path.now ready.path_apart ∙ stays ∙ path_stays)) (λ free. inr (sym path_stays ∙ free)) two.path_is;
      beside_is = inr one.free;
      others = λ name out. keeps name out.no_beside ∙ two.others name out.no_path ∙ one.moved.others name out.no_beside_part out.no_beside;
    }

acts_half : (p : Pair) (fault : PartFault) (before after : Option (List AskedOfNames)) → PublishesHalf p fault before after →
    Acts (λ start finish. IsPairReady p start → IsPairUnpublished p start finish) before after
acts_half p fault before after asks =
    acts_weaker (λ start finish. IsPairReady p start → IsPairUnpublished p start finish)
    (λ start finish all ready.
    let one = all.1 ready.beside_part_there in
    let there : all.0 p.part.now ≢ None = λ none. ready.part_there (sym (part_stays p start all.0 ready one) ∙ none) in
    half_published p start all.0 all.2.0 finish ready one (all.2.1 there) (removed_or_not p.beside.now asks.last.removed all.2.0 finish all.2.2).1)
    (acts_then (acts_beside p.beside_part.now p.beside.now before asks.one asks.first)
    (acts_then (acts_publishes_not p.part.now p.path.now fault asks.one asks.both asks.second) (acts_one (Remove p.beside.now) asks.last.removed asks.both after asks.last.calls)))

acts_no_pair : (p : Pair) (fault : PartFault) (before after : Option (List AskedOfNames)) → PublishesNoPair p fault before after →
    Acts (λ start finish. IsPairReady p start → IsPairUnpublished p start finish) before after
acts_no_pair p fault before after =
    ⊎_elim
    (λ none. acts_weaker (λ start finish. IsPairReady p start → IsPairUnpublished p start finish) (λ start finish is ready. none_published p start finish ready (is ready.beside_part_there))
    (acts_publishes_not p.beside_part.now p.beside.now fault before after none))
    (acts_half p fault before after)

pub publishes_no_pair : PublishesNoPairLaw
publishes_no_pair p fault before after start finish asks leads = acts_law (acts_no_pair p fault before after asks) leads
