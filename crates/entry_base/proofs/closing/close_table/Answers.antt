use Rattle.std.proofs.Common.{arith}
use Rattle.plain_table.specs.declared.events.Space.TheVariants.{External, Trusted}
use Rattle.entry_word.specs.Image.{sizes_of}
use Rattle.entry_base.proofs.ClosedWords.{table_closed}
use Rattle.entry_base.proofs.closing.close_table.Goals as goal

pub overflow_mul-trusted : goal.overflow_mul-trusted
overflow_mul-trusted c = let a = c.requires.few.few External in omega arith

pub overflow_mul-end : goal.overflow_mul-end
overflow_mul-end c = let a = c.requires.few.few Trusted in omega arith

pub end_of_list-trusted_end-requires : goal.end_of_list-trusted_end-requires
end_of_list-trusted_end-requires c = let a = c.requires.few.few External in let b = c.requires.few.objects in (omega arith, omega arith)

pub returns : goal.returns
returns c = table_closed (sizes_of c.args.shape.now) c.args.words.now c.close_from.new.words c.close_from-2.new.words _ _ c.end_of_list-external_end.result c.end_of_list-trusted_end.result _ (omega arith) (omega arith) (omega arith)
    c.end_of_list-external_end.ensures.0 c.end_of_list-trusted_end.ensures.0 c.close_from.ensures c.close_from-2.ensures
