-- The words of the command line.
use Rattle.std.specs.Prelude.{◌≡◌, ◌==◌, ◌⊎◌, ℕ, Bool, false, List, [], ◌∷◌, codes, Some, map, option_map}
use Rattle.std.specs.List.{list_any}
use Rattle.clap.specs.declared.builder.action.ArgAction.TheVariants.{Append}
use Rattle.clap.specs.Words.{App, Row, Shape, all_of}
use Rattle.program_words.specs.Grammar.{command_with_words, wanted_word, program_of}
use Rattle.program_words.specs.Met.{AsksText, IsNoCommand, NamesCommand}
pub use Rattle.program_words.specs.Met.{texts}
use Rattle.command_words.specs.declared.words.Order.{Order}
use Rattle.command_words.specs.declared.words.Order.TheVariants as order
use Rattle.command_words.specs.declared.words.ImageWords.{ImageWords}
use Rattle.command_words.specs.declared.words.FileWords.{FileWords}
use Rattle.command_words.specs.declared.words.CertificateWords.{CertificateWords}
use Rattle.command_words.specs.declared.words.ServeWords.{ServeWords}

-- the word begins with `-`
abbrev pub is_option : List ℕ → Bool
is_option [] = false
is_option (c ∷ cs) = c == 45

-- the words of a command, in their places
abbrev pub image_texts : ImageWords → List (List ℕ)
image_texts words = words.geometry.now ∷ words.image.now ∷ words.number.now ∷ []

abbrev pub file_texts : FileWords → List (List ℕ)
file_texts words = words.geometry.now ∷ words.input.now ∷ words.output.now ∷ []

abbrev pub certificate_texts : CertificateWords → List (List ℕ)
certificate_texts words = words.geometry.now ∷ words.capacity.now ∷ words.image.now ∷ words.certificate.now ∷ []

abbrev pub serve_texts : ServeWords → List (List ℕ)
serve_texts words = words.geometry.now ∷ words.capacity.now ∷ words.image.now ∷ words.certificate.now ∷ words.output.now ∷ []

-- a command's name and its words
abbrev pub order_words : Order → List (List ℕ)
order_words (order.Sector words) = codes "sector" ∷ image_texts words
order_words (order.Show words) = codes "show" ∷ image_texts words
order_words (order.Format words) = codes "format" ∷ file_texts words
order_words (order.Check words) = codes "check" ∷ certificate_texts words
order_words (order.Mount words) = codes "mount" ∷ certificate_texts words
order_words (order.Serve words) = codes "serve" ∷ serve_texts words
order_words (order.Migrate words) = codes "migrate" ∷ serve_texts words

-- the program's name and the order's words, none of which begins with `-`
pub record IsOrder (words : List (List ℕ)) (order : Order) : Type 0 where
  pub program : List ℕ
  pub spelled : words ≡ program ∷ order_words order
  pub plain : list_any is_option (order_words order) ≡ false

-- ---- the same, as `clap` is told it

-- a command of this name, which wants one word or more
abbrev pub command : List ℕ → Shape
command name = command_with_words name (wanted_word Append (codes "WORDS") ∷ [])

-- the commands that the program has
abbrev pub command_names : List (List ℕ)
command_names = codes "sector" ∷ codes "show" ∷ codes "format" ∷ codes "check" ∷ codes "mount" ∷ codes "serve" ∷ codes "migrate" ∷ []

abbrev pub grammar : App
grammar = program_of (codes "nandctl") (map command command_names)

-- the command of this name with these entries is the order's, and has its words
abbrev pub IsOrderAt : List ℕ → List Row → Order → Type 0
IsOrderAt name rows order = option_map (λ words. name ∷ words) (all_of (codes "WORDS") rows) ≡ Some (order_words order)

-- of the words as `clap` reads them: they name the order's command, with its words
abbrev pub IsOrderRead : List (List ℕ) → Order → Type 0
IsOrderRead words order = NamesCommand IsOrderAt grammar words order

-- they ask for a text, or name no command with its words
abbrev pub IsNoOrderRead : List (List ℕ) → Type 0
IsNoOrderRead words = AsksText grammar words ⊎ IsNoCommand IsOrderAt grammar words
