use Rattle.std.proofs.Common.{inr, lit<, refl}
use Rattle.tag_set.specs.Tag.{IsOldTag}
use Rattle.script_reader.proofs.forms.nothing.Goals as goal

old : IsOldTag 15
unfolding lib.Count.ones
old = (lit< tt, refl)

pub returns-clause-valid : goal.returns-clause-valid
returns-clause-valid c = λ version. record {
  variable = lit< tt;
  other = lit< tt;
  target = tt;
  reference = lit< tt;
  field = lit< tt;
  global = lit< tt;
  tagged = ((lit< tt, lit< tt), inr old);
  asked = (((lit< tt, lit< tt), (lit< tt, lit< tt), lit< tt), inr (old, refl));
  word = lit< tt;
  value = lit< tt;
}
