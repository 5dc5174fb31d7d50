use Rattle.tag_set.proofs.StrippedWords.{answers_tags_within, refuses_flags, refuses_no_tag}
use Rattle.tag_set.proofs.stripping.strip_tests_the_range.Goals as goal

pub returns-clause-regular : goal.returns-clause-regular
returns-clause-regular c = answers_tags_within

pub returns-clause-flags : goal.returns-clause-flags
returns-clause-flags c = refuses_flags

pub returns-clause-no_tag : goal.returns-clause-no_tag
returns-clause-no_tag c = refuses_no_tag
