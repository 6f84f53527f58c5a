-- What a disk is made of, by the words that say so.
use Rattle.std.proofs.Common.{◌≡◌, List, Option, Some, None, IfSome, option_map, sym, ◌∙◌}
use Rattle.std.specs.Borrow.{Bor}
use Rattle.clap.specs.Walk.{Row, Text}
use Rattle.disk_commands.specs.declared.words.MakeWords.{MakeWords}
use Rattle.disk_commands.specs.declared.words.MakeWords.TheVariants as made_of
use Rattle.disk_commands.specs.Words.{make, HasMake, IsMakeAt}

-- the words are these, or there are none
pub made : (rows : List Row) (s g f : Option (Bor Text)) → HasMake rows (option_map (λ t. t.now) s) (option_map (λ t. t.now) g) (option_map (λ t. t.now) f) → IfSome (make s g f) (IsMakeAt rows)
made rows (Some s) None None has = has
made rows None (Some g) None has = has
made rows None (Some g) (Some f) has = has
made rows None None f has = tt
made rows (Some s) (Some g) f has = tt
made rows (Some s) None (Some f) has = tt

pub clash : {A : Type 0} (o : Option A) (x : A) → o ≡ Some x → o ≡ None → ⊥
clash o x some none = let no : Some x ≡ None = sym some ∙ none in cc

-- where they make nothing, the entries are those of nothing that a disk is made of
pub unmade : (rows : List Row) (s g f : Option (Bor Text)) → HasMake rows (option_map (λ t. t.now) s) (option_map (λ t. t.now) g) (option_map (λ t. t.now) f)
    → make s g f ≡ None → (read : MakeWords) → ¬ IsMakeAt rows read
unmade rows None None f has none (made_of.Size size) = λ is. clash _ _ is.size_is has.size_is
unmade rows None None f has none (made_of.Geometry geometry) = λ is. clash _ _ is.geometry_is has.geometry_is
unmade rows None None f has none (made_of.Dump geometry from) = λ is. clash _ _ is.geometry_is has.geometry_is
unmade rows (Some s) (Some g) f has none (made_of.Size size) = λ is. clash _ _ has.geometry_is is.geometry_is
unmade rows (Some s) (Some g) f has none (made_of.Geometry geometry) = λ is. clash _ _ has.size_is is.size_is
unmade rows (Some s) (Some g) f has none (made_of.Dump geometry from) = λ is. clash _ _ has.size_is is.size_is
unmade rows (Some s) None (Some f) has none (made_of.Size size) = λ is. clash _ _ has.from_is is.from_is
unmade rows (Some s) None (Some f) has none (made_of.Geometry geometry) = λ is. clash _ _ has.size_is is.size_is
unmade rows (Some s) None (Some f) has none (made_of.Dump geometry from) = λ is. clash _ _ has.size_is is.size_is
unmade rows (Some s) None None has none read = absurd (cc)
unmade rows None (Some g) None has none read = absurd (cc)
unmade rows None (Some g) (Some f) has none read = absurd (cc)
