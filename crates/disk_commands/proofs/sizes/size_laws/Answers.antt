use Rattle.std.proofs.Common.{◌≡◌, ◌*◌, ◌^◌, Option, Some, refl, sym, ap, ◌∙◌}
use Rattle.std.specs.Prelude.{ℕ, length}
use Rattle.disk_commands.specs.Sizes.{SaysUnits}
use Rattle.disk_commands.proofs.SizeLemmas.{parts_of, same_amount}
use Rattle.disk_commands.proofs.sizes.size_laws.Goals as goal

-- a word's units are said in one way
one_number : (a b : ℕ) (o : Option ℕ) → o ≡ Some a → o ≡ Some b → a ≡ b
one_number a b o e f = let both : Some a ≡ Some b = sym e ∙ f in cc

product_same : (word : _) (digits places unit d p u a : ℕ) → SaysUnits word digits places unit → SaysUnits word d p u → a * 10 ^ places ≡ digits * unit → a * 10 ^ p ≡ d * u
product_same word digits places unit d p u a says said e =
    let x = parts_of word digits places unit says in
    let y = parts_of word d p u said in
    let digits_same = one_number digits d _ x.digits_are y.digits_are in
    let unit_same = one_number unit u _ x.unit_is y.unit_is in
    ap (λ n. a * 10 ^ n) (y.places_are ∙ sym x.places_are) ∙ e ∙ ap (λ n. n * unit) digits_same ∙ ap (λ n. d * n) unit_same

pub returns-clause-size : goal.returns-clause-size
returns-clause-size c whole part suffix digits unit bytes some few counted named product least most = record {
  digits = digits;
  places = length part;
  unit = unit;
  says = record { whole = whole; part = part; suffix = suffix; split = refl; some_whole = some; places_are = refl; few = few; digits_are = counted; unit_is = named };
  product = product;
  least = least;
  most = most;
}

pub returns-clause-one : goal.returns-clause-one
returns-clause-one c word a b x y = same_amount a b y.places (y.digits * y.unit) (product_same word x.digits x.places x.unit y.digits y.places y.unit a x.says y.says x.product) y.product

pub returns-clause-part : goal.returns-clause-part
returns-clause-part c word bytes x y = x.no_bytes bytes (product_same word y.digits y.places y.unit x.digits x.places x.unit bytes y.says x.says y.product)

pub returns-clause-units : goal.returns-clause-units
returns-clause-units c = record {
  bytes = refl;
  capital = record { kilo = refl; mega = refl; giga = refl; tera = refl };
  small = record { kilo = refl; mega = refl; giga = refl; tera = refl };
  binary = record { kilo = refl; mega = refl; giga = refl; tera = refl };
  decimal = record { kilo = refl; mega = refl; giga = refl; tera = refl };
}
