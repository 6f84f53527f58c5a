-- What `clap` makes of the words, and what a program makes of that.
use Rattle.std.proofs.Common.{◌≡◌, ◌⊎◌, ◌&&◌, inl, inr, true, false, ℕ, List, [], Bool, Result, Ok, Err, Option, Some, None, IfOk, refl, sym, subst, ◌∙◌}
use Rattle.std.specs.Borrow.{Bor}
use Rattle.clap.specs.declared.error.Error.{Error}
use Rattle.clap.specs.declared.error.kind.ErrorKind.TheVariants.{DisplayHelp, DisplayVersion, OutOfMemory}
use Rattle.clap.specs.declared.parser.matches.ArgMatches.{ArgMatches}
use Rattle.clap.specs.Kinds.{Kinds, FailsBy, HasKind, IsAmong}
use Rattle.clap.specs.Simple.{HasMatchesOf, is_simple}
use Rattle.clap.specs.Words.{App, Row, fault_of, is_simple_and_free, subcommand_of, subcommand_rows_of}
use Rattle.program_words.specs.declared.met.CommandWords.{CommandWords}
use Rattle.program_words.specs.declared.met.Met.TheVariants as met
use Rattle.program_words.specs.declared.met.GrammarFault.{GrammarFault}
use Rattle.program_words.specs.declared.met.GrammarFault.TheVariants as words_fault
use Rattle.program_words.specs.Met.{HasFault, IsCommandOf, IsMet, IsNoCommand, IsOtherKind, IsTextFor, IsUnmet, Names, NamesCommand, command_entries}

-- the text of help or of the version is what the words ask for
pub text_asked : (e : Error) (ks : Kinds) → IsTextFor e → HasKind ks e → IsAmong DisplayHelp ks ⊎ IsAmong DisplayVersion ks
text_asked e ks (inl h) (inl m) = absurd (let clash : DisplayHelp ≡ OutOfMemory = sym h ∙ m in cc)
text_asked e ks (inl h) (inr a) = inl (subst (λ k. IsAmong k ks) h a)
text_asked e ks (inr h) (inl m) = absurd (let clash : DisplayVersion ≡ OutOfMemory = sym h ∙ m in cc)
text_asked e ks (inr h) (inr a) = inr (subst (λ k. IsAmong k ks) h a)

-- a fault of another kind is found in the words
pub fault_found : (g : App) (e : Error) (words : List (List ℕ)) → IsOtherKind e → HasKind (fault_of g words) e → HasFault g words
fault_found g e words other (inl memory) = absurd (other.memory memory)
fault_found g e words other (inr among) = record { kind = _; among = among; other = other }

first_of_both : (a b : Bool) → a && b ≡ true → a ≡ true
first_of_both true b is = refl
first_of_both false b is = is

-- what `clap` gave of the words, by the grammar that it was told
pub record Parses (f g : App) (words : List (List ℕ)) (result : Result ArgMatches Error) : Type 0 where
  pub told : f ≡ g
  pub simple : is_simple_and_free g ≡ true
  pub matches : IfOk result (HasMatchesOf f words)
  pub kinds : is_simple_and_free f ≡ true → FailsBy (fault_of f words) result

pub parses : (f g : App) (words : List (List ℕ)) (result : Result ArgMatches Error) → f ≡ g → is_simple_and_free g ≡ true → IfOk result (HasMatchesOf f words) → (is_simple_and_free f ≡ true → FailsBy (fault_of f words) result) → Parses f g words result
parses f g words result told simple matches kinds = record { told = told; simple = simple; matches = matches; kinds = kinds }

fails_by : (f g : App) (words : List (List ℕ)) (result : Result ArgMatches Error) → Parses f g words result → FailsBy (fault_of g words) result
fails_by f g words result p = subst (λ a. is_simple_and_free a ≡ true → FailsBy (fault_of a words) result) p.told p.kinds p.simple

-- no fault was found, and the subcommand is the one that the words name
pub taken : (f g : App) (words : List (List ℕ)) (matches : ArgMatches) (result : Result ArgMatches Error) → Parses f g words result → result ≡ Ok matches → (fault_of g words ≡ []) × (subcommand_rows_of matches ≡ subcommand_of g words)
taken f g words matches result p ok =
    let has : HasMatchesOf g words matches = subst (λ a. HasMatchesOf a words matches) p.told (subst (λ r. IfOk r (HasMatchesOf f words)) ok p.matches) in
    (subst (λ r. FailsBy (fault_of g words) r) ok (fails_by f g words result p), (has (first_of_both (is_simple g) _ p.simple)).1)

-- the command that the words name was met
pub command_met : (f g : App) (words : List (List ℕ)) (name : Bor (List ℕ)) (given : CommandWords) (matches : ArgMatches) (result : Result ArgMatches Error) → Parses f g words result → result ≡ Ok matches
    → Names (subcommand_rows_of matches) name.now (command_entries given) → IsMet g words (met.Command name given)
command_met f g words name given matches result p ok names =
    let is = taken f g words matches result p ok in
    (is.0, subst (λ m. Names m name.now (command_entries given)) is.1 names)

-- none was
pub none_met : (f g : App) (words : List (List ℕ)) (matches : ArgMatches) (result : Result ArgMatches Error) → Parses f g words result → result ≡ Ok matches → subcommand_rows_of matches ≡ None → IsUnmet g words
none_met f g words matches result p ok none = let is = taken f g words matches result p ok in inr (is.0, sym is.1 ∙ none)

-- it refuses them for one of their faults
pub kind_found : (f g : App) (words : List (List ℕ)) (error : Error) (result : Result ArgMatches Error) → Parses f g words result → result ≡ Err error → HasKind (fault_of g words) error
kind_found f g words error result p err = subst (λ r. FailsBy (fault_of g words) r) err (fails_by f g words result p)

-- a fault of another kind is what they have
pub unmet : {X : Type 0} (g : App) (words : List (List ℕ)) (error : Error) (result : Result X GrammarFault) (fault : GrammarFault) → HasKind (fault_of g words) error → result ≡ Err fault
    → (result ≡ Err words_fault.NoSuchCommand → IsOtherKind error) → fault ≡ words_fault.NoSuchCommand → IsUnmet g words
unmet g words error result fault has err other same =
    let told : result ≡ Err words_fault.NoSuchCommand = cc in
    inl (fault_found g error words (other told) has)

-- ---- what a program makes of its words

-- a command that was met is what they ask for
pub asked_by : {A : Type 0} (at : List ℕ → List Row → A → Type 0) (f g : App) (words : List (List ℕ)) (name : Bor (List ℕ)) (given : CommandWords) (found : A) → f ≡ g → IsMet f words (met.Command name given)
    → at name.now (command_entries given) found → NamesCommand at g words found
asked_by at f g words name given found same is read =
    let met = subst (λ a. IsMet a words (met.Command name given)) same is in
    (met.0, record { name = name.now; rows = command_entries given; names = met.1; read = read })

-- a command has one name and one list of entries
same_some : {X : Type 0} (o : Option X) (x y : X) → o ≡ Some x → o ≡ Some y → x ≡ y
same_some o x y a b = let one : Some x ≡ Some y = sym a ∙ b in cc

moved : {A : Type 0} (at : List ℕ → List Row → A → Type 0) (n m : List ℕ) (r s : List Row) (found : A) → n ≡ m → r ≡ s → at n r found → at m s found
moved at n m r s found a b is = subst (λ k. at k s found) a (subst (λ k. at n k found) b is)

only : {A : Type 0} (at : List ℕ → List Row → A → Type 0) (met : Option (List ℕ × List Row)) (name : List ℕ) (rows : List Row) (found : A) → Names met name rows → IsCommandOf at met found → at name rows found
only at met name rows found names is =
    moved at is.name name is.rows rows found (same_some _ _ _ is.names.named names.named) (same_some _ _ _ is.names.entries names.entries) is.read

-- one that asks for nothing is no command
pub none_by : {A : Type 0} (at : List ℕ → List Row → A → Type 0) (f g : App) (words : List (List ℕ)) (name : Bor (List ℕ)) (given : CommandWords) → f ≡ g → IsMet f words (met.Command name given)
    → ((found : A) → ¬ at name.now (command_entries given) found) → IsNoCommand at g words
none_by at f g words name given same is none =
    let met = subst (λ a. IsMet a words (met.Command name given)) same is in
    inr (record { taken = met.0; none = λ found command. none found (only at (subcommand_of g words) name.now (command_entries given) found met.1 command) })

nameless : {A : Type 0} (at : List ℕ → List Row → A → Type 0) (found : A) (met : Option (List ℕ × List Row)) → met ≡ None → ¬ IsCommandOf at met found
nameless at found None is = λ command. let no : None ≡ Some command.name = command.names.named in cc
nameless at found (Some p) is = absurd (cc)

-- nor is none
pub unmet_by : {A : Type 0} (at : List ℕ → List Row → A → Type 0) (f g : App) (words : List (List ℕ)) → f ≡ g → IsUnmet f words → IsNoCommand at g words
unmet_by at f g words same is = go (subst (λ a. IsUnmet a words) same is)
  where
    go : IsUnmet g words → IsNoCommand at g words
    go (inl fault) = inl fault
    go (inr (taken, none)) = inr (record { taken = taken; none = λ found. nameless at found (subcommand_of g words) none })
