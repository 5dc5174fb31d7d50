-- The words are those of the exchange, in the image that is else the same.
use Rattle.std.proofs.Common.{◌≡◌, ◌∙◌, List, length, ℕ, ap, subst}
use Rattle.std.specs.Vec.{with_items}
use Rattle.std.proofs.lemmas.List.{with_items_is}
use Rattle.plain_table.specs.declared.events.Space.TheVariants.{External}
use Rattle.plain_table.specs.Index.{index_of}
use Rattle.plain_table.specs.Words.{entry_place}
use Rattle.entry_word.specs.Image.{sizes_of}
use Rattle.mutator_calls.specs.Exchanges.{exchanged}
use Rattle.mutator_calls.specs.Words.{LooksAt}
use Rattle.mutator_calls.proofs.Exchanged.{Exchanges-made, IsReady-exchanged}
use Rattle.mutator_calls.proofs.heap.Mutator.exchange.Goals as goal

looks : (c : goal.After-self-1) → LooksAt c.args.self.now.image.words.items (sizes_of c.args.self.now.image.shape) External c.args.word c.args.range.first c.args.range.last c.exchange.result
looks c = subst (λ (ws : List ℕ). LooksAt ws (sizes_of c.args.self.now.image.shape) External c.args.word c.args.range.first c.args.range.last c.exchange.result) c.deref_mut.ensures.value c.exchange.ensures.looks

words_are : (c : goal.After-self-1) → (with_items c.args.self.now.image.words c.exchange.new.words).items
    ≡ exchanged c.args.self.now.image.words.items (entry_place (sizes_of c.args.self.now.image.shape) External (index_of c.args.word)) c.args.value c.exchange.result
words_are c =
    let image = c.args.self.now.image in
    let long : length c.exchange.new.words ≡ image.words.len = c.exchange.auto.words ∙ c.deref_mut.ensures.len in
    with_items_is image.words c.exchange.new.words long
    ∙ c.exchange.ensures.words
    ∙ ap (λ (ws : List ℕ). exchanged ws (entry_place (sizes_of image.shape) External (index_of c.args.word)) c.args.value c.exchange.result) c.deref_mut.ensures.value

pub returns-clause-ready : goal.returns-clause-ready
returns-clause-ready c =
    let m = c.args.self.now in
    IsReady-exchanged m (with_items m.image.words c.exchange.new.words) c.args.word c.args.range.first c.args.range.last c.args.value c.exchange.result
    c.requires.ready.shape c.requires.small (looks c) (words_are c) c.requires.ready

pub returns-clause-tables : goal.returns-clause-tables
returns-clause-tables c = λ s h.
    let m = c.args.self.now in
    Exchanges-made m (with_items m.image.words c.exchange.new.words) c.args.word c.args.range.first c.args.range.last c.args.value c.exchange.result
    c.requires.ready.shape c.requires.small (looks c) (words_are c) s h
