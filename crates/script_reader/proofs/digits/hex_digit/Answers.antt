use Rattle.std.proofs.Common.{rules}
use Rattle.script_reader.proofs.HexDigits.{glyph_ascii, glyph_at}
use Rattle.script_reader.proofs.digits.hex_digit.Goals as goal

pub returns-clause-value : goal.returns-clause-value
returns-clause-value c = search (rules, glyph_at c.args.digit c.requires)

pub returns-clause-ascii : goal.returns-clause-ascii
returns-clause-ascii c = search (rules, glyph_at c.args.digit c.requires, glyph_ascii c.args.digit c.requires)
