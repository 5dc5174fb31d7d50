-- What the code of each event of entries found and set makes the event's step.
use Rattle.std.proofs.Common.{◌≡◌, ◌≢◌, ℕ, ◌+◌, ◌^◌, ◌<◌, ◌==◌, Bool, true, false, Option, Some, None, subst, eq-eqb, ne_eqb, sym, ◌∙◌, ap, IsTrue}
use Rattle.std.specs.Prelude.{◌↔◌, if◌then◌else◌, IsSomeAnd}
use Rattle.std.specs.Option.{option_map, option_map_or}
use Rattle.std.specs.Bool.{OnTrue}
use Rattle.plain_table.specs.declared.events.Act.TheVariants.{Take, Below, Put, Bind, Set, Swap, Forge, Publish}
use Rattle.plain_table.specs.declared.events.Cell.{Cell}
use Rattle.plain_table.specs.declared.events.Space.{Space}
use Rattle.plain_table.specs.declared.events.Space.TheVariants.{External, Trusted}
use Rattle.plain_table.specs.declared.events.Field.{Field}
use Rattle.plain_table.specs.declared.events.Field.TheVariants as field
use Rattle.plain_table.specs.declared.reports.Reply.{Reply}
use Rattle.plain_table.specs.declared.reports.Reply.TheVariants as reply
use Rattle.plain_table.specs.Places.{put_at, put_entry, put_field, put_claim, same_space, space_of}
use Rattle.plain_table.specs.Index.{index_of}
use Rattle.plain_table.specs.Cycle.{start_in, marked_in, touched_in}
use Rattle.plain_table.specs.Table.{Table, least_free}
use Rattle.plain_table.specs.Finish.{id_at}
use Rattle.plain_table.specs.Rows.{row, HasCell, is_asked, value_at, free_below, tickets_after, with_taken, with_bound, with_unbound, with_value}
use Rattle.plain_table.specs.History.{IsLegal, next}
use Rattle.plain_table.specs.declared.events.Event.{Event}
use Rattle.plain_table.specs.Shapes.{event}
use Rattle.plain_program.specs.Kept.{Kept, shown}
use Rattle.plain_program.specs.Steps.{Steps}

pub takes : (old mid new : Kept) (b : ℕ) (p : Space) (i : ℕ) →
    shown mid ≡ record (shown old) { used = put_entry (shown old).used p i true } →
    shown new ≡ record (shown mid) { owed = put_claim (shown mid).owed b p i true } →
    shown new ≡ with_taken (shown old) b p (Some i)
takes old mid new b p i used owed = owed ∙ ap (λ (t : Table). record t { owed = put_claim t.owed b p i true }) used

pub makes_take : (old new : Kept) (b : ℕ) (p : Space) (i : ℕ) (said : Reply) → Some i ≡ least_free (shown old) p →
    said ≡ reply.Index i → shown new ≡ with_taken (shown old) b p (Some i) → new.spent ≡ old.spent →
    Steps true old new (event b (Take p) said)
makes_take old new b p i said least is taken s = (
  (tt, is ∙ ap (λ (free : Option ℕ). option_map_or reply.Index free reply.Full) least),
  taken ∙ ap (with_taken (shown old) b p) least,
  s,
)

pub makes_below : (old new : Kept) (b start i : ℕ) (said : Reply) → start_in (shown old).cycle ≡ Some start →
    Some i ≡ free_below (shown old) start → said ≡ reply.Index i →
    shown new ≡ with_taken (shown old) b External (Some i) → new.spent ≡ old.spent →
    Steps true old new (event b (Below start) said)
makes_below old new b start i said area least is taken s = (
  (area, is ∙ ap (λ (free : Option ℕ). option_map_or reply.Index free reply.NoRoom) least),
  taken ∙ ap (with_taken (shown old) b External) least,
  s,
)

pub makes_put : (old k1 k2 k3 k4 new : Kept) (b : ℕ) (p : Space) (i tag value id : ℕ) (sees : Bool) (said : Reply) →
    (row (shown old) b (Put p i tag value)).allowed → said ≡ reply.Ok →
    id ≡ old.next → sees ≡ same_space p External →
    shown k1 ≡ record (shown old) { cells = put_entry (shown old).cells p i (Some (record { id = id; tag = tag; value = value; shown = sees })) } →
    shown k2 ≡ record (shown k1) { next = (shown k1).next + 1 } →
    shown k3 ≡ record (shown k2) { owed = put_claim (shown k2).owed b p i false } →
    shown k4 ≡ record (shown k3) { fresh = put_claim (shown k3).fresh b p i true } →
    shown new ≡ record (shown k4) { cycle = marked_in (shown k4).cycle p i } →
    k1.spent ≡ old.spent → k2.spent ≡ k1.spent → k3.spent ≡ k2.spent → k4.spent ≡ k3.spent → new.spent ≡ k4.spent →
    Steps true old new (event b (Put p i tag value) said)
makes_put old k1 k2 k3 k4 new b p i tag value id sees said allowed is named seen e1 e2 e3 e4 e5 s1 s2 s3 s4 s5 = (
  (allowed, is),
  e5 ∙ ap (λ (t : Table). record t { cycle = marked_in t.cycle p i }) (
      e4 ∙ ap (λ (t : Table). record t { fresh = put_claim t.fresh b p i true }) (
      e3 ∙ ap (λ (t : Table). record t { owed = put_claim t.owed b p i false }) (
      e2 ∙ ap (λ (t : Table). record t { next = t.next + 1 }) (
      e1 ∙ ap (λ (n : ℕ). record (shown old) { cells = put_entry (shown old).cells p i (Some (record { id = n; tag = tag; value = value; shown = sees })) }) named
      ∙ ap (λ (test : Bool). record (shown old) { cells = put_entry (shown old).cells p i (Some (record { id = old.next; tag = tag; value = value; shown = test })) }) seen)))),
  s5 ∙ s4 ∙ s3 ∙ s2 ∙ s1,
)

-- a field that holds a word refuses each other reply
pub refuses_taken : (old : Kept) (b : ℕ) (f : Field) (word found : ℕ) (said : Reply) (test : Bool) → found ≡ (shown old).words f → found ≢ 0 →
    (IsTrue test ↔ (said ≡ reply.Taken found)) → test ≡ false → IsLegal (shown old) (event b (Bind f word) said) → ⊥
refuses_taken old b f word found said test is full tests other legal =
    let held : (shown old).words f ≢ 0 = λ none. full (is ∙ none) in
    let says : test ≡ true = tests.1 (legal.1 ∙ ap (λ (none : Bool). if none then reply.Ok else reply.Taken ((shown old).words f)) (ne_eqb ((shown old).words f) 0 held)
    ∙ sym (ap reply.Taken is)) in absurd (cc)

pub makes_unbound : (old new : Kept) (b : ℕ) (f : Field) (word found : ℕ) (p : Space) (i : ℕ) (said : Reply) →
    (row (shown old) b (Bind f word)).allowed → found ≡ (shown old).words f → found ≢ 0 → said ≡ reply.Taken found →
    p ≡ space_of f → i ≡ index_of word →
    shown new ≡ record (shown old) { fresh = put_claim (shown old).fresh b p i false } → new.spent ≡ old.spent →
    Steps true old new (event b (Bind f word) said)
makes_unbound old new b f word found p i said allowed held full is space index unbound s =
    let holds : (shown old).words f ≢ 0 = λ none. full (held ∙ none) in
    let taken : ((shown old).words f == 0) ≡ false = ne_eqb ((shown old).words f) 0 holds in
    let past : Space → ℕ → Table = λ (q : Space) (j : ℕ). record (shown old) { fresh = put_claim (shown old).fresh b q j false } in (
      (allowed, is ∙ ap reply.Taken held ∙ sym (ap (λ (test : Bool). if test then reply.Ok else reply.Taken ((shown old).words f)) taken)),
      unbound ∙ ap (λ (q : Space). past q i) space ∙ ap (λ (j : ℕ). past (space_of f) j) index
          ∙ sym (ap (λ (test : Bool). if test then with_bound (shown old) b f word else with_unbound (shown old) b f word) taken),
      s,
    )

pub makes_bound : (old k1 k2 k3 k4 new : Kept) (b : ℕ) (f : Field) (word : ℕ) (p : Space) (i : ℕ) (id : Option ℕ) (said : Reply) →
    (row (shown old) b (Bind f word)).allowed → (shown old).words f ≡ 0 → said ≡ reply.Ok →
    p ≡ space_of f → i ≡ index_of word → id ≡ id_at (shown old) p i →
    shown k1 ≡ record (shown old) { words = put_field (shown old).words f word } →
    shown k2 ≡ record (shown k1) { bound = put_field (shown k1).bound f id } →
    shown k3 ≡ record (shown k2) { ticket = tickets_after (shown k2) b p i } →
    shown k4 ≡ record (shown k3) { fresh = put_claim (shown k3).fresh b p i false } →
    shown new ≡ record (shown k4) { cycle = touched_in (shown k4).cycle f word } →
    k1.spent ≡ old.spent → k2.spent ≡ k1.spent → k3.spent ≡ k2.spent → k4.spent ≡ k3.spent → new.spent ≡ k4.spent →
    Steps true old new (event b (Bind f word) said)
makes_bound old k1 k2 k3 k4 new b f word p i id said allowed none is space index named e1 e2 e3 e4 e5 s1 s2 s3 s4 s5 =
    let zero : ((shown old).words f == 0) ≡ true = eq-eqb ((shown old).words f) 0 none in
    let past : Space → ℕ → Option ℕ → Table = λ (q : Space) (j : ℕ) (n : Option ℕ). record (shown old) {
      words = put_field (shown old).words f word;
      bound = put_field (shown old).bound f n;
      ticket = tickets_after (shown old) b q j;
      fresh = put_claim (shown old).fresh b q j false;
      cycle = touched_in (shown old).cycle f word;
    } in (
      (allowed, is ∙ sym (ap (λ (test : Bool). if test then reply.Ok else reply.Taken ((shown old).words f)) zero)),
      e5 ∙ ap (λ (t : Table). record t { cycle = touched_in t.cycle f word }) (
          e4 ∙ ap (λ (t : Table). record t { fresh = put_claim t.fresh b p i false }) (
          e3 ∙ ap (λ (t : Table). record t { ticket = tickets_after t b p i }) (
          e2 ∙ ap (λ (t : Table). record t { bound = put_field t.bound f id }) e1)))
          ∙ ap (λ (n : Option ℕ). past p i n) named
          ∙ ap (λ (q : Space). past q i (id_at (shown old) q i)) space
          ∙ ap (λ (j : ℕ). past (space_of f) j (id_at (shown old) (space_of f) j)) index
          ∙ sym (ap (λ (test : Bool). if test then with_bound (shown old) b f word else with_unbound (shown old) b f word) zero),
      s5 ∙ s4 ∙ s3 ∙ s2 ∙ s1,
    )

has_cell : (k : Kept) (word first last : ℕ) (c : Cell) → (shown k).cells External (index_of word) ≡ Some c → IsTrue (is_asked first last c.tag) → HasCell (shown k) word first last
has_cell k word first last c at tags = subst (λ (found : Option Cell). IsSomeAnd found (λ (x : Cell). IsTrue (is_asked first last x.tag))) (sym at) tags

pub stores : (old mid new : Kept) (i value : ℕ) (c : Cell) → (shown old).cells External i ≡ Some c →
    shown mid ≡ record (shown old) { cells = put_entry (shown old).cells External i (Some (record c { value = value })) } →
    shown new ≡ record (shown mid) { cycle = marked_in (shown mid).cycle External i } →
    shown new ≡ with_value (shown old) i value
stores old mid new i value c at e1 e2 =
    e2 ∙ ap (λ (t : Table). record t { cycle = marked_in t.cycle External i }) (
    e1 ∙ ap (λ (found : Option Cell). record (shown old) { cells = put_entry (shown old).cells External i (option_map (λ (x : Cell). record x { value = value }) found) }) (sym at))

pub makes_set : (old new : Kept) (b word first last value i : ℕ) (c : Cell) (said : Reply) → i ≡ index_of word →
    (shown old).cells External (index_of word) ≡ Some c → IsTrue (is_asked first last c.tag) → value < 2 ^ 48 → said ≡ reply.Ok →
    shown new ≡ with_value (shown old) i value → new.spent ≡ old.spent →
    Steps true old new (event b (Set word first last value) said)
makes_set old new b word first last value i c said index at tags small is stored s =
    (((has_cell old word first last c at tags, small), is), stored ∙ ap (λ (j : ℕ). with_value (shown old) j value) index, s)

pub makes_swap : (old new : Kept) (b word first last value i : ℕ) (c : Cell) (said : Reply) → i ≡ index_of word →
    (shown old).cells External (index_of word) ≡ Some c → IsTrue (is_asked first last c.tag) → value < 2 ^ 48 → said ≡ reply.Value c.value →
    shown new ≡ with_value (shown old) i value → new.spent ≡ old.spent →
    Steps true old new (event b (Swap word first last value) said)
makes_swap old new b word first last value i c said index at tags small is stored s = (
  ((has_cell old word first last c at tags, small), is ∙ sym (ap (λ (found : Option Cell). reply.Value (value_at found)) at)),
  stored ∙ ap (λ (j : ℕ). with_value (shown old) j value) index,
  s,
)

pub makes_forge : (old k1 k2 new : Kept) (b number word : ℕ) (said : Reply) → (row (shown old) b (Forge number word)).allowed → said ≡ reply.Ok →
    shown k1 ≡ record (shown old) { words = put_field (shown old).words (field.External number) word } →
    shown k2 ≡ record (shown k1) { bound = put_field (shown k1).bound (field.External number) None } →
    shown new ≡ record (shown k2) { cycle = touched_in (shown k2).cycle (field.External number) word } →
    k1.spent ≡ old.spent → k2.spent ≡ k1.spent → new.spent ≡ k2.spent → Steps true old new (event b (Forge number word) said)
makes_forge old k1 k2 new b number word said allowed is e1 e2 e3 s1 s2 s3 = (
  (allowed, is),
  e3 ∙ ap (λ (t : Table). record t { cycle = touched_in t.cycle (field.External number) word }) (
      e2 ∙ ap (λ (t : Table). record t { bound = put_field t.bound (field.External number) None }) e1),
  s3 ∙ s2 ∙ s1,
)

-- the cell at a trusted index can be seen
pub shows_cell : (old new : Kept) (i : ℕ) (c : Cell) → Some c ≡ (shown old).cells Trusted i →
    shown new ≡ record (shown old) { cells = put_entry (shown old).cells Trusted i (Some (record c { shown = true })) } →
    shown new ≡ record (shown old) { cells = put_entry (shown old).cells Trusted i (option_map (λ (x : Cell). record x { shown = true }) ((shown old).cells Trusted i)) }
shows_cell old new i c at e =
    e ∙ ap (λ (found : Option Cell). record (shown old) { cells = put_entry (shown old).cells Trusted i (option_map (λ (x : Cell). record x { shown = true }) found) }) at

pub makes_publish : (old k1 k2 new : Kept) (b i : ℕ) (said : Reply) → (shown old).ticket b ≡ Some i → said ≡ reply.Ok →
    shown k1 ≡ record (shown old) { cells = put_entry (shown old).cells Trusted i (option_map (λ (x : Cell). record x { shown = true }) ((shown old).cells Trusted i)) } →
    shown k2 ≡ record (shown k1) { ticket = put_at (shown k1).ticket b None } →
    shown new ≡ record (shown k2) { cycle = marked_in (shown k2).cycle Trusted i } →
    k1.spent ≡ old.spent → k2.spent ≡ k1.spent → new.spent ≡ k2.spent → Steps true old new (event b (Publish i) said)
makes_publish old k1 k2 new b i said allowed is e1 e2 e3 s1 s2 s3 = (
  (allowed, is),
  e3 ∙ ap (λ (t : Table). record t { cycle = marked_in t.cycle Trusted i }) (
      e2 ∙ ap (λ (t : Table). record t { ticket = put_at t.ticket b None }) e1),
  s3 ∙ s2 ∙ s1,
)

-- what a step of the code says of the table after it
pub Steps-next : (old new : Kept) (e : Event) (done : Bool) → Steps done old new e → OnTrue done (shown new ≡ next (shown old) e)
Steps-next old new e true steps = steps.1
Steps-next old new e false steps = tt
