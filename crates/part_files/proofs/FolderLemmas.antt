-- WHAT CALLS THAT WERE ASKED MEAN FOR THE NAMES, piece by piece: each piece of the log is some calls, and these have effects.
use Rattle.std.proofs.Common.{◌≡◌, ℕ, List, [], ◌∷◌, ◌++◌, Option, None, Some, refl, subst, sym, ap, ◌∙◌}
use Rattle.std.proofs.lemmas.List.{append_cancel_left}
use Rattle.part_files.specs.Names.{AskedOfNames, NameCall, Came, and_one, and_then, asked}
use Rattle.part_files.specs.Names.NameCall.{LetGo}
use Rattle.part_files.specs.Names.Came.{Done}
use Rattle.part_files.proofs.CallLemmas.{then_all}
use Rattle.part_files.specs.Folder.{Folder, Effect, Effects, LeadsNames}

-- some calls, and what they mean for the names
pub record Acts (Means : Folder → Folder → Type 0) (before after : Option (List AskedOfNames)) : Type 0 where
  pub calls : List AskedOfNames
  pub is : after ≡ and_then before calls
  pub means : (start finish : Folder) → Effects calls start finish → Means start finish

known_of : Option (List AskedOfNames) → List AskedOfNames
known_of None = []
known_of (Some known) = known

-- what was added to a log is known by the log before and the one after
same_calls : (before : Option (List AskedOfNames)) (known more calls : List AskedOfNames) → before ≡ Some known → and_then before more ≡ and_then before calls → more ≡ calls
unfolding known_of
same_calls before known more calls is same =
    append_cancel_left known more calls (ap known_of (sym (ap (λ l. and_then l more) is) ∙ same ∙ ap (λ l. and_then l calls) is))

pub acts_law : {Means : Folder → Folder → Type 0} {before after : Option (List AskedOfNames)} {start finish : Folder} → Acts Means before after → LeadsNames before after start finish → Means start finish
acts_law {before = before} {start = start} {finish = finish} acts leads =
    acts.means start finish (subst (λ calls. Effects calls start finish) (same_calls before leads.known leads.more acts.calls leads.known_is (sym leads.more_is ∙ acts.is)) leads.effects)

effects_split : (calls others : List AskedOfNames) (start finish : Folder) → Effects (calls ++ others) start finish → (between : Folder) × Effects calls start between × Effects others between finish
effects_split [] others start finish all = (start, refl, all)
effects_split (one ∷ calls) others start finish all =
    let rest = effects_split calls others all.0 finish all.2 in
    (rest.0, (all.0, all.1, rest.1), rest.2)

pub acts_weaker : {Means : Folder → Folder → Type 0} (Less : Folder → Folder → Type 0) {before after : Option (List AskedOfNames)} →
    ((start finish : Folder) → Means start finish → Less start finish) → Acts Means before after → Acts Less before after
acts_weaker Less weaker acts = record { calls = acts.calls; is = acts.is; means = λ start finish all. weaker start finish (acts.means start finish all) }

pub acts_then : {First Second : Folder → Folder → Type 0} {before between after : Option (List AskedOfNames)} → Acts First before between → Acts Second between after →
    Acts (λ start finish. (middle : Folder) × First start middle × Second middle finish) before after
acts_then {before = before} one two =
    record {
      calls = one.calls ++ two.calls;
      is = two.is ∙ ap (λ l. and_then l two.calls) one.is ∙ then_all before one.calls two.calls;
      means = λ start finish all.
          let parts = effects_split one.calls two.calls start finish all in
          (parts.0, one.means start parts.0 parts.1, two.means parts.0 finish parts.2);
    }

-- one call, two, three
pub acts_one : (call : NameCall) (came : Came) (before after : Option (List AskedOfNames)) → after ≡ and_one before call came → Acts (Effect call came) before after
acts_one call came before after is = record { calls = asked call came ∷ []; is = is; means = λ start finish all. subst (Effect call came start) (sym all.2) all.1 }

pub acts_two : (one two : NameCall) (first second : Came) (before after : Option (List AskedOfNames)) → after ≡ and_then before (asked one first ∷ asked two second ∷ []) →
    Acts (λ start finish. (middle : Folder) × Effect one first start middle × Effect two second middle finish) before after
acts_two one two first second before after is =
    acts_then (acts_one one first before (and_one before one first) refl) (acts_one two second (and_one before one first) after (is ∙ sym (then_all before (asked one first ∷ []) (asked two second ∷ []))))

pub acts_three : (one two three : NameCall) (first second third : Came) (before after : Option (List AskedOfNames)) →
    after ≡ and_then before (asked one first ∷ asked two second ∷ asked three third ∷ []) →
    Acts (λ start finish. (middle : Folder) × Effect one first start middle × ((last : Folder) × Effect two second middle last × Effect three third last finish)) before after
acts_three one two three first second third before after is =
    acts_then (acts_one one first before (and_one before one first) refl)
    (acts_two two three second third (and_one before one first) after (is ∙ sym (then_all before (asked one first ∷ []) (asked two second ∷ asked three third ∷ []))))

-- what is done while a file is held
pub acts_held : {Means : Folder → Folder → Type 0} (call : NameCall) {before last after : Option (List AskedOfNames)} → Acts Means (and_one before call Done) last → after ≡ and_one last LetGo Done →
    Acts (λ start finish. (middle : Folder) × Effect call Done start middle × Means middle finish) before after
acts_held {Means} call {before} {last} {after} within let_go =
    acts_weaker (λ start finish. (middle : Folder) × Effect call Done start middle × Means middle finish)
    (λ start finish all. (all.1.0, all.1.1, subst (Means all.1.0) (sym all.2) all.1.2))
    (acts_then (acts_then (acts_one call Done before (and_one before call Done) refl) within) (acts_one LetGo Done last after let_go))

-- what a name has, where nothing was changed
pub at : {before after : Folder} (name : List ℕ) → after ≡ before → after name ≡ before name
at name same = ap (λ names. names name) same
