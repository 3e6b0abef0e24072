use Rattle.std.proofs.Common.{◌≡◌, rules}
use Rattle.std.specs.Option.{option_map}
use Rattle.run.specs.declared.arguments.Argument.TheVariants.{Input}
use Rattle.run.proofs.Written.{input_read}
use Rattle.run.proofs.spelling.parse_argument.Goals as goal

pub returns : goal.returns
returns c =
    let mapped : c.map.result ≡ option_map Input c.parse_word.result = search rules in
    input_read c.args.text.now c.parse_word.result c.map.result c.in_default.ensures c.in_default-parse_cell.ensures c.parse_word.ensures mapped
