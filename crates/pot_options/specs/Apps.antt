-- The command that clap is given, and the entries of its answer.
use Rattle.std.specs.Prelude.{◌≡◌, List, [], ◌∷◌, map, Some, None, codes, true, slice_get}
use Rattle.std.specs.Prelude.{unwrap_or}
use Rattle.clap.specs.Words.{App, Rule, Row, new_rule, rows_of, found_of}
use Rattle.clap.specs.Simple.{new_shape}
use Rattle.clap.specs.declared.builder.ArgAction.TheVariants.{Set}
use Rattle.clap.specs.declared.builder.value_parser.Reading.TheVariants.{AsWritten}
use Rattle.clap.specs.declared.parser.matches.ValueSource.TheVariants.{CommandLine}
use Rattle.clap.specs.declared.parser.matches.ArgMatches.{ArgMatches}
use Rattle.pot_options.specs.Options.{Text}

abbrev pub option_rule : Text → Rule
option_rule name = record (new_rule name) { long = Some name; action = Some Set }

-- the options `names`, each of which takes one value
abbrev pub options_app : List Text → App
options_app names = record {
  top = record (new_shape (codes "options")) {
    rules = map option_rule names;
    no_binary_name = true;
    disable_help_flag = true;
  };
  subs = [];
}

-- a use as an entry of the matches
abbrev pub row_of_use : Text × Text → Row
row_of_use u = record {
  id = u.0;
  values = u.1 ∷ [];
  count = None;
  source = Some CommandLine;
  reading = AsWritten;
}

-- the use that an entry stands for
abbrev pub use_of_row : Row → Text × Text
use_of_row row = (row.id, unwrap_or (slice_get row.values 0) [])

-- the uses that the matches stand for
abbrev pub uses_of : ArgMatches → List (Text × Text)
uses_of m = map use_of_row (rows_of (found_of m))

-- the matches are of these uses, in turn, and have nothing else
abbrev pub HasUses : ArgMatches → List (Text × Text) → Type 0
HasUses m uses = rows_of (found_of m) ≡ map row_of_use uses
