-- The line of a valid operation says that operation.
use Rattle.std.proofs.Common.{◌≡◌, ℕ, ◌+◌, ◌^◌, ◌<◌, ◌≤◌, nat_lt, nat_eq, true, false, List, [], ◌∷◌, ◌++◌, codes, Option, Some, None, Ok, refl, ◌∙◌, arith}
use Rattle.std.specs.Str.{bytes_eq}
use Rattle.std.specs.Fmt.{decimal}
use Rattle.std.proofs.lemmas.Grind.{common_steps}
use Rattle.std.proofs.lemmas.Bool.Decides.{nat_tests}
use Rattle.std.proofs.lemmas.Fmt.{decimal_digit}
use Rattle.plain_table.specs.declared.scripts.Op.{Op}
use Rattle.plain_table.specs.declared.scripts.Op.TheVariants as op
use Rattle.script_reader.specs.declared.forms.Form.{Form}
use Rattle.script_reader.specs.declared.forms.Form.TheVariants as form
use Rattle.script_reader.specs.declared.forms.Place.{Place}
use Rattle.script_reader.specs.declared.forms.Place.TheVariants as place
use Rattle.script_reader.specs.declared.forms.Said.{Said}
use Rattle.script_reader.specs.declared.lines.Counts.{Counts}
use Rattle.script_reader.specs.declared.lines.Line.TheVariants as line
use Rattle.script_reader.specs.Spelling.{index_word_of, value_of}
use Rattle.script_reader.specs.Forms.{form_of, places_of, op_of, read_at, read_mutator, read_places, target_of, nothing_said}
use Rattle.script_reader.specs.Lines.{form_line, line_of, line_of_words, most_operations, operation_line}
use Rattle.script_reader.specs.Valid.{IsRangeOf, IsTagOf, IsTarget, IsValidOp}
use Rattle.script_reader.specs.Canonical.{hex, letter, op_words, range_word, spaced, target_word}
use Rattle.script_reader.proofs.Ink.{is_ink, are_ink, both, words-spaced}
use Rattle.script_reader.proofs.ReadBack.{ink-letter, read-letter, ink-hex, read-hex, ink-range, read-tag, read-range, ink-decimal, read-decimal}

-- what each place says
at-variable : (a v : ℕ) (s : Said) → v < 16 → read_at a place.Variable (letter v) s ≡ Ok (record s { variable = v })
at-variable a v s h = rw (read-letter v h) refl

at-other : (a v : ℕ) (s : Said) → v < 16 → read_at a place.Other (letter v) s ≡ Ok (record s { other = v })
at-other a v s h = rw (read-letter v h) refl

read-target : (t : Option ℕ) → IsTarget t → target_of (target_word t) ≡ Some t
read-target None h = refl
read-target (Some v) h =
    let e : bytes_eq (letter v) (codes "-") ≡ false = grind (arith, common_steps, nat_tests) in
    rw (e, read-letter v h) refl

at-target : (a : ℕ) (t : Option ℕ) (s : Said) → IsTarget t → read_at a place.Target (target_word t) s ≡ Ok (record s { target = t })
at-target a t s h = rw (read-target t h) refl

ink-target : (t : Option ℕ) → is_ink (target_word t) ≡ true
ink-target None = refl
ink-target (Some v) = ink-letter v

at-tag : (a t : ℕ) (s : Said) → IsTagOf a t → read_at a place.Tag (hex 2 t) s ≡ Ok (record s { tag = t })
at-tag a t s h = rw (read-tag a t h) refl

at-range : (a first last : ℕ) (s : Said) → IsRangeOf a first last
    → read_at a place.Range (range_word first last) s ≡ Ok (record s { first = first; last = last })
at-range a first last s h = rw (read-range a first last h) refl

at-word : (a w : ℕ) (s : Said) → w < 2 ^ 32 → read_at a place.Word (hex 8 w) s ≡ Ok (record s { word = w })
at-word a w s h = let e : index_word_of (hex 8 w) ≡ Some w = read-hex 8 w (omega arith) in rw e refl

at-value : (a x : ℕ) (s : Said) → x < 2 ^ 48 → read_at a place.Value (hex 12 x) s ≡ Ok (record s { value = x })
at-value a x s h = let e : value_of (hex 12 x) ≡ Some x = read-hex 12 x (omega arith) in rw e refl

at-reference : (a k : ℕ) (s : Said) → k < 4 → read_at a place.Reference (decimal k) s ≡ Ok (record s { reference = k })
at-reference a k s h =
    let t : nat_lt k 4 ≡ true = grind (arith, common_steps, nat_tests) in
    rw (read-decimal k (omega arith), t) refl

at-field : (a f : ℕ) (s : Said) → f < 2 → read_at a place.Field (decimal f) s ≡ Ok (record s { field = f })
at-field a f s h =
    let t : nat_lt f 2 ≡ true = grind (arith, common_steps, nat_tests) in
    rw (read-decimal f (omega arith), t) refl

at-global : (a g : ℕ) (s : Said) → g < 16 → read_at a place.Global (decimal g) s ≡ Ok (record s { global = g })
at-global a g s h =
    let t : nat_lt g 16 ≡ true = grind (arith, common_steps, nat_tests) in
    rw (read-decimal g (omega arith), t) refl

-- one place, and then those after it
next : (a : ℕ) (p : Place) (w : List ℕ) (ps : List Place) (ws : List (List ℕ)) (s t : Said) → read_at a p w s ≡ Ok t
    → read_places a (p ∷ ps) (w ∷ ws) s ≡ read_places a ps ws t
next a p w ps ws s t h = rw h refl

ink-next : (w : List ℕ) (ws : List (List ℕ)) → is_ink w ≡ true → are_ink ws ≡ true → are_ink (w ∷ ws) ≡ true
ink-next w ws i j = both (is_ink w) (are_ink ws) i j

-- how an operation of a script of version a is read from its words
pub record IsReadAs (a : ℕ) (s : Said) (words : List (List ℕ)) (call : Op) : Type 0 where
  pub name : List ℕ
  pub places : List (List ℕ)
  pub form : Form
  pub said : Said
  pub split : words ≡ name ∷ places
  pub named : form_of name ≡ Some form
  pub read : read_places a (places_of form) places s ≡ Ok said
  pub made : op_of form said ≡ call
  pub same : said.mutator ≡ s.mutator
  pub ink : are_ink words ≡ true

ink-small : (n bound : ℕ) → n < bound → bound ≤ 16 → is_ink (decimal n) ≡ true
ink-small n bound h b = ink-decimal n (omega arith)

pub read-op : (a : ℕ) (s : Said) (call : Op) → IsValidOp a call → IsReadAs a s (op_words call) call
read-op a s (op.New v) h = record {
  name = codes "new";
  places = letter v ∷ [];
  form = form.New;
  said = record s { variable = v };
  split = refl;
  named = refl;
  made = refl;
  same = refl;
  read = next a place.Variable (letter v) ([]) ([]) s (record s { variable = v })
      (at-variable a v s h);
  ink = ink-next (letter v) ([]) (ink-letter v) refl;
}
read-op a s (op.Drop v) h = record {
  name = codes "drop";
  places = letter v ∷ [];
  form = form.Drop;
  said = record s { variable = v };
  split = refl;
  named = refl;
  made = refl;
  same = refl;
  read = next a place.Variable (letter v) ([]) ([]) s (record s { variable = v })
      (at-variable a v s h);
  ink = ink-next (letter v) ([]) (ink-letter v) refl;
}
read-op a s (op.Link v k t) h = record {
  name = codes "link";
  places = letter v ∷ decimal k ∷ target_word t ∷ [];
  form = form.Link;
  said = record s { variable = v; reference = k; target = t };
  split = refl;
  named = refl;
  made = refl;
  same = refl;
  read = next a place.Variable (letter v) (place.Reference ∷ place.Target ∷ []) (decimal k ∷ target_word t ∷ []) s (record s { variable = v })
      (at-variable a v s h.0)
      ∙ next a place.Reference (decimal k) (place.Target ∷ []) (target_word t ∷ []) (record s { variable = v }) (record s { variable = v; reference = k })
      (at-reference a k (record s { variable = v }) h.1)
      ∙ next a place.Target (target_word t) ([]) ([]) (record s { variable = v; reference = k }) (record s { variable = v; reference = k; target = t })
      (at-target a t (record s { variable = v; reference = k }) h.2);
  ink = ink-next (letter v) (decimal k ∷ target_word t ∷ []) (ink-letter v) (ink-next (decimal k) (target_word t ∷ []) (ink-small k 4 h.1 (omega arith)) (ink-next (target_word t) ([]) (ink-target t) refl));
}
read-op a s (op.Fetch v u k) h = record {
  name = codes "fetch";
  places = letter v ∷ letter u ∷ decimal k ∷ [];
  form = form.Fetch;
  said = record s { variable = v; other = u; reference = k };
  split = refl;
  named = refl;
  made = refl;
  same = refl;
  read = next a place.Variable (letter v) (place.Other ∷ place.Reference ∷ []) (letter u ∷ decimal k ∷ []) s (record s { variable = v })
      (at-variable a v s h.0)
      ∙ next a place.Other (letter u) (place.Reference ∷ []) (decimal k ∷ []) (record s { variable = v }) (record s { variable = v; other = u })
      (at-other a u (record s { variable = v }) h.1)
      ∙ next a place.Reference (decimal k) ([]) ([]) (record s { variable = v; other = u }) (record s { variable = v; other = u; reference = k })
      (at-reference a k (record s { variable = v; other = u }) h.2);
  ink = ink-next (letter v) (letter u ∷ decimal k ∷ []) (ink-letter v) (ink-next (letter u) (decimal k ∷ []) (ink-letter u) (ink-next (decimal k) ([]) (ink-small k 4 h.2 (omega arith)) refl));
}
read-op a s (op.SetG g t) h = record {
  name = codes "setg";
  places = decimal g ∷ target_word t ∷ [];
  form = form.SetG;
  said = record s { global = g; target = t };
  split = refl;
  named = refl;
  made = refl;
  same = refl;
  read = next a place.Global (decimal g) (place.Target ∷ []) (target_word t ∷ []) s (record s { global = g })
      (at-global a g s h.0)
      ∙ next a place.Target (target_word t) ([]) ([]) (record s { global = g }) (record s { global = g; target = t })
      (at-target a t (record s { global = g }) h.1);
  ink = ink-next (decimal g) (target_word t ∷ []) (ink-small g 16 h.0 (omega arith)) (ink-next (target_word t) ([]) (ink-target t) refl);
}
read-op a s (op.GetG v g) h = record {
  name = codes "getg";
  places = letter v ∷ decimal g ∷ [];
  form = form.GetG;
  said = record s { variable = v; global = g };
  split = refl;
  named = refl;
  made = refl;
  same = refl;
  read = next a place.Variable (letter v) (place.Global ∷ []) (decimal g ∷ []) s (record s { variable = v })
      (at-variable a v s h.0)
      ∙ next a place.Global (decimal g) ([]) ([]) (record s { variable = v }) (record s { variable = v; global = g })
      (at-global a g (record s { variable = v }) h.1);
  ink = ink-next (letter v) (decimal g ∷ []) (ink-letter v) (ink-next (decimal g) ([]) (ink-small g 16 h.1 (omega arith)) refl);
}
read-op a s (op.Init v f t x) h = record {
  name = codes "init";
  places = letter v ∷ decimal f ∷ hex 2 t ∷ hex 12 x ∷ [];
  form = form.Init;
  said = record s { variable = v; field = f; tag = t; value = x };
  split = refl;
  named = refl;
  made = refl;
  same = refl;
  read = next a place.Variable (letter v) (place.Field ∷ place.Tag ∷ place.Value ∷ []) (decimal f ∷ hex 2 t ∷ hex 12 x ∷ []) s (record s { variable = v })
      (at-variable a v s h.0)
      ∙ next a place.Field (decimal f) (place.Tag ∷ place.Value ∷ []) (hex 2 t ∷ hex 12 x ∷ []) (record s { variable = v }) (record s { variable = v; field = f })
      (at-field a f (record s { variable = v }) h.1)
      ∙ next a place.Tag (hex 2 t) (place.Value ∷ []) (hex 12 x ∷ []) (record s { variable = v; field = f }) (record s { variable = v; field = f; tag = t })
      (at-tag a t (record s { variable = v; field = f }) h.2)
      ∙ next a place.Value (hex 12 x) ([]) ([]) (record s { variable = v; field = f; tag = t }) (record s { variable = v; field = f; tag = t; value = x })
      (at-value a x (record s { variable = v; field = f; tag = t }) h.3);
  ink = ink-next (letter v) (decimal f ∷ hex 2 t ∷ hex 12 x ∷ []) (ink-letter v) (ink-next (decimal f) (hex 2 t ∷ hex 12 x ∷ []) (ink-small f 2 h.1 (omega arith)) (ink-next (hex 2 t) (hex 12 x ∷ []) (ink-hex 2 t) (ink-next (hex 12 x) ([]) (ink-hex 12 x) refl)));
}
read-op a s (op.Load v f first last) h = record {
  name = codes "load";
  places = letter v ∷ decimal f ∷ range_word first last ∷ [];
  form = form.Load;
  said = record s { variable = v; field = f; first = first; last = last };
  split = refl;
  named = refl;
  made = refl;
  same = refl;
  read = next a place.Variable (letter v) (place.Field ∷ place.Range ∷ []) (decimal f ∷ range_word first last ∷ []) s (record s { variable = v })
      (at-variable a v s h.0)
      ∙ next a place.Field (decimal f) (place.Range ∷ []) (range_word first last ∷ []) (record s { variable = v }) (record s { variable = v; field = f })
      (at-field a f (record s { variable = v }) h.1)
      ∙ next a place.Range (range_word first last) ([]) ([]) (record s { variable = v; field = f }) (record s { variable = v; field = f; first = first; last = last })
      (at-range a first last (record s { variable = v; field = f }) h.2);
  ink = ink-next (letter v) (decimal f ∷ range_word first last ∷ []) (ink-letter v) (ink-next (decimal f) (range_word first last ∷ []) (ink-small f 2 h.1 (omega arith)) (ink-next (range_word first last) ([]) (ink-range first last) refl));
}
read-op a s (op.Store v f first last x) h = record {
  name = codes "store";
  places = letter v ∷ decimal f ∷ range_word first last ∷ hex 12 x ∷ [];
  form = form.Store;
  said = record s { variable = v; field = f; first = first; last = last; value = x };
  split = refl;
  named = refl;
  made = refl;
  same = refl;
  read = next a place.Variable (letter v) (place.Field ∷ place.Range ∷ place.Value ∷ []) (decimal f ∷ range_word first last ∷ hex 12 x ∷ []) s (record s { variable = v })
      (at-variable a v s h.0)
      ∙ next a place.Field (decimal f) (place.Range ∷ place.Value ∷ []) (range_word first last ∷ hex 12 x ∷ []) (record s { variable = v }) (record s { variable = v; field = f })
      (at-field a f (record s { variable = v }) h.1)
      ∙ next a place.Range (range_word first last) (place.Value ∷ []) (hex 12 x ∷ []) (record s { variable = v; field = f }) (record s { variable = v; field = f; first = first; last = last })
      (at-range a first last (record s { variable = v; field = f }) h.2)
      ∙ next a place.Value (hex 12 x) ([]) ([]) (record s { variable = v; field = f; first = first; last = last }) (record s { variable = v; field = f; first = first; last = last; value = x })
      (at-value a x (record s { variable = v; field = f; first = first; last = last }) h.3);
  ink = ink-next (letter v) (decimal f ∷ range_word first last ∷ hex 12 x ∷ []) (ink-letter v) (ink-next (decimal f) (range_word first last ∷ hex 12 x ∷ []) (ink-small f 2 h.1 (omega arith)) (ink-next (range_word first last) (hex 12 x ∷ []) (ink-range first last) (ink-next (hex 12 x) ([]) (ink-hex 12 x) refl)));
}
read-op a s (op.Swap v f first last x) h = record {
  name = codes "swap";
  places = letter v ∷ decimal f ∷ range_word first last ∷ hex 12 x ∷ [];
  form = form.Swap;
  said = record s { variable = v; field = f; first = first; last = last; value = x };
  split = refl;
  named = refl;
  made = refl;
  same = refl;
  read = next a place.Variable (letter v) (place.Field ∷ place.Range ∷ place.Value ∷ []) (decimal f ∷ range_word first last ∷ hex 12 x ∷ []) s (record s { variable = v })
      (at-variable a v s h.0)
      ∙ next a place.Field (decimal f) (place.Range ∷ place.Value ∷ []) (range_word first last ∷ hex 12 x ∷ []) (record s { variable = v }) (record s { variable = v; field = f })
      (at-field a f (record s { variable = v }) h.1)
      ∙ next a place.Range (range_word first last) (place.Value ∷ []) (hex 12 x ∷ []) (record s { variable = v; field = f }) (record s { variable = v; field = f; first = first; last = last })
      (at-range a first last (record s { variable = v; field = f }) h.2)
      ∙ next a place.Value (hex 12 x) ([]) ([]) (record s { variable = v; field = f; first = first; last = last }) (record s { variable = v; field = f; first = first; last = last; value = x })
      (at-value a x (record s { variable = v; field = f; first = first; last = last }) h.3);
  ink = ink-next (letter v) (decimal f ∷ range_word first last ∷ hex 12 x ∷ []) (ink-letter v) (ink-next (decimal f) (range_word first last ∷ hex 12 x ∷ []) (ink-small f 2 h.1 (omega arith)) (ink-next (range_word first last) (hex 12 x ∷ []) (ink-range first last) (ink-next (hex 12 x) ([]) (ink-hex 12 x) refl)));
}
read-op a s (op.Name v f) h = record {
  name = codes "name";
  places = letter v ∷ decimal f ∷ [];
  form = form.Name;
  said = record s { variable = v; field = f };
  split = refl;
  named = refl;
  made = refl;
  same = refl;
  read = next a place.Variable (letter v) (place.Field ∷ []) (decimal f ∷ []) s (record s { variable = v })
      (at-variable a v s h.0)
      ∙ next a place.Field (decimal f) ([]) ([]) (record s { variable = v }) (record s { variable = v; field = f })
      (at-field a f (record s { variable = v }) h.1);
  ink = ink-next (letter v) (decimal f ∷ []) (ink-letter v) (ink-next (decimal f) ([]) (ink-small f 2 h.1 (omega arith)) refl);
}
read-op a s (op.Forge v f w) h = record {
  name = codes "forge";
  places = letter v ∷ decimal f ∷ hex 8 w ∷ [];
  form = form.Forge;
  said = record s { variable = v; field = f; word = w };
  split = refl;
  named = refl;
  made = refl;
  same = refl;
  read = next a place.Variable (letter v) (place.Field ∷ place.Word ∷ []) (decimal f ∷ hex 8 w ∷ []) s (record s { variable = v })
      (at-variable a v s h.0)
      ∙ next a place.Field (decimal f) (place.Word ∷ []) (hex 8 w ∷ []) (record s { variable = v }) (record s { variable = v; field = f })
      (at-field a f (record s { variable = v }) h.1)
      ∙ next a place.Word (hex 8 w) ([]) ([]) (record s { variable = v; field = f }) (record s { variable = v; field = f; word = w })
      (at-word a w (record s { variable = v; field = f }) h.2);
  ink = ink-next (letter v) (decimal f ∷ hex 8 w ∷ []) (ink-letter v) (ink-next (decimal f) (hex 8 w ∷ []) (ink-small f 2 h.1 (omega arith)) (ink-next (hex 8 w) ([]) (ink-hex 8 w) refl));
}
read-op a s (op.Raw w first last) h = record {
  name = codes "raw";
  places = hex 8 w ∷ range_word first last ∷ [];
  form = form.Raw;
  said = record s { word = w; first = first; last = last };
  split = refl;
  named = refl;
  made = refl;
  same = refl;
  read = next a place.Word (hex 8 w) (place.Range ∷ []) (range_word first last ∷ []) s (record s { word = w })
      (at-word a w s h.0)
      ∙ next a place.Range (range_word first last) ([]) ([]) (record s { word = w }) (record s { word = w; first = first; last = last })
      (at-range a first last (record s { word = w }) h.1);
  ink = ink-next (hex 8 w) (range_word first last ∷ []) (ink-hex 8 w) (ink-next (range_word first last) ([]) (ink-range first last) refl);
}
read-op a s (op.RawSet w first last x) h = record {
  name = codes "rawset";
  places = hex 8 w ∷ range_word first last ∷ hex 12 x ∷ [];
  form = form.RawSet;
  said = record s { word = w; first = first; last = last; value = x };
  split = refl;
  named = refl;
  made = refl;
  same = refl;
  read = next a place.Word (hex 8 w) (place.Range ∷ place.Value ∷ []) (range_word first last ∷ hex 12 x ∷ []) s (record s { word = w })
      (at-word a w s h.0)
      ∙ next a place.Range (range_word first last) (place.Value ∷ []) (hex 12 x ∷ []) (record s { word = w }) (record s { word = w; first = first; last = last })
      (at-range a first last (record s { word = w }) h.1)
      ∙ next a place.Value (hex 12 x) ([]) ([]) (record s { word = w; first = first; last = last }) (record s { word = w; first = first; last = last; value = x })
      (at-value a x (record s { word = w; first = first; last = last }) h.2);
  ink = ink-next (hex 8 w) (range_word first last ∷ hex 12 x ∷ []) (ink-hex 8 w) (ink-next (range_word first last) (hex 12 x ∷ []) (ink-range first last) (ink-next (hex 12 x) ([]) (ink-hex 12 x) refl));
}
read-op a s (op.TNew v t x) h = record {
  name = codes "tnew";
  places = letter v ∷ hex 2 t ∷ hex 12 x ∷ [];
  form = form.TNew;
  said = record s { variable = v; tag = t; value = x };
  split = refl;
  named = refl;
  made = refl;
  same = refl;
  read = next a place.Variable (letter v) (place.Tag ∷ place.Value ∷ []) (hex 2 t ∷ hex 12 x ∷ []) s (record s { variable = v })
      (at-variable a v s h.0)
      ∙ next a place.Tag (hex 2 t) (place.Value ∷ []) (hex 12 x ∷ []) (record s { variable = v }) (record s { variable = v; tag = t })
      (at-tag a t (record s { variable = v }) h.1)
      ∙ next a place.Value (hex 12 x) ([]) ([]) (record s { variable = v; tag = t }) (record s { variable = v; tag = t; value = x })
      (at-value a x (record s { variable = v; tag = t }) h.2);
  ink = ink-next (letter v) (hex 2 t ∷ hex 12 x ∷ []) (ink-letter v) (ink-next (hex 2 t) (hex 12 x ∷ []) (ink-hex 2 t) (ink-next (hex 12 x) ([]) (ink-hex 12 x) refl));
}
read-op a s (op.TPub v) h = record {
  name = codes "tpub";
  places = letter v ∷ [];
  form = form.TPub;
  said = record s { variable = v };
  split = refl;
  named = refl;
  made = refl;
  same = refl;
  read = next a place.Variable (letter v) ([]) ([]) s (record s { variable = v })
      (at-variable a v s h);
  ink = ink-next (letter v) ([]) (ink-letter v) refl;
}
read-op a s (op.TLoad v first last) h = record {
  name = codes "tload";
  places = letter v ∷ range_word first last ∷ [];
  form = form.TLoad;
  said = record s { variable = v; first = first; last = last };
  split = refl;
  named = refl;
  made = refl;
  same = refl;
  read = next a place.Variable (letter v) (place.Range ∷ []) (range_word first last ∷ []) s (record s { variable = v })
      (at-variable a v s h.0)
      ∙ next a place.Range (range_word first last) ([]) ([]) (record s { variable = v }) (record s { variable = v; first = first; last = last })
      (at-range a first last (record s { variable = v }) h.1);
  ink = ink-next (letter v) (range_word first last ∷ []) (ink-letter v) (ink-next (range_word first last) ([]) (ink-range first last) refl);
}
read-op a s (op.TRaw w first last) h = record {
  name = codes "traw";
  places = hex 8 w ∷ range_word first last ∷ [];
  form = form.TRaw;
  said = record s { word = w; first = first; last = last };
  split = refl;
  named = refl;
  made = refl;
  same = refl;
  read = next a place.Word (hex 8 w) (place.Range ∷ []) (range_word first last ∷ []) s (record s { word = w })
      (at-word a w s h.0)
      ∙ next a place.Range (range_word first last) ([]) ([]) (record s { word = w }) (record s { word = w; first = first; last = last })
      (at-range a first last (record s { word = w }) h.1);
  ink = ink-next (hex 8 w) (range_word first last ∷ []) (ink-hex 8 w) (ink-next (range_word first last) ([]) (ink-range first last) refl);
}
read-op a s (op.Share v u) h = record {
  name = codes "share";
  places = letter v ∷ letter u ∷ [];
  form = form.Share;
  said = record s { variable = v; other = u };
  split = refl;
  named = refl;
  made = refl;
  same = refl;
  read = next a place.Variable (letter v) (place.Other ∷ []) (letter u ∷ []) s (record s { variable = v })
      (at-variable a v s h.0)
      ∙ next a place.Other (letter u) ([]) ([]) (record s { variable = v }) (record s { variable = v; other = u })
      (at-other a u (record s { variable = v }) h.1);
  ink = ink-next (letter v) (letter u ∷ []) (ink-letter v) (ink-next (letter u) ([]) (ink-letter u) refl);
}

-- the mutator's number
at-mutator : (mutators m : ℕ) (s : Said) → m < mutators → mutators ≤ 8
    → read_mutator mutators (decimal m) s ≡ Ok (record s { mutator = m })
at-mutator mutators m s h b =
    let t : nat_lt m mutators ≡ true = grind (arith, common_steps, nat_tests) in
    rw (read-decimal m (omega arith), t) refl

call-form : (c : Counts) (m : ℕ) (call : Op) → m < c.mutators → c.mutators ≤ 8 → c.operations < most_operations
    → (r : IsReadAs c.version (record nothing_said { mutator = m }) (op_words call) call)
    → form_line c (decimal m) r.places r.form ≡ Ok (line.Operation (record { mutator = m; op = call }))
call-form c m call h b few r =
    let t : nat_lt c.operations most_operations ≡ true = grind (arith, common_steps, nat_tests) in
    rw (at-mutator c.mutators m nothing_said h b, r.read, t, r.made, r.same) refl

call-operation : (c : Counts) (m : ℕ) (call : Op) → m < c.mutators → c.mutators ≤ 8 → c.operations < most_operations
    → (r : IsReadAs c.version (record nothing_said { mutator = m }) (op_words call) call)
    → operation_line c (decimal m) (op_words call) ≡ Ok (line.Operation (record { mutator = m; op = call }))
call-operation c m call h b few r = rw (r.split, r.named) (call-form c m call h b few r)

-- `m` and the number of a mutator
first-word : (c : Counts) (d : ℕ) (more : List (List ℕ)) → 48 ≤ d → d < 58
    → line_of_words c ((109 ∷ d ∷ []) ∷ more) ≡ operation_line c (d ∷ []) more
first-word c d more low high =
    let e : nat_eq d 101 ≡ false = grind (arith, common_steps, nat_tests) in
    rw e refl

pub line-op : (c : Counts) (m : ℕ) (call : Op) → IsValidOp c.version call → m < c.mutators → c.mutators ≤ 8
    → c.operations < most_operations
    → line_of c ((codes "m" ++ decimal m) ++ spaced (op_words call))
    ≡ Ok (line.Operation (record { mutator = m; op = call }))
line-op c m call valid h b few =
    let r = read-op c.version (record nothing_said { mutator = m }) call valid in
    let d : decimal m ≡ (48 + m) ∷ [] = decimal_digit m (omega arith) in
    let w = words-spaced (109 ∷ decimal m) (op_words call) (ink-decimal m (omega arith)) r.ink in
    let a : line_of_words c ((109 ∷ decimal m) ∷ op_words call) ≡ operation_line c (decimal m) (op_words call) =
    rw d (first-word c (48 + m) (op_words call) (omega arith) (omega arith)) in
    rw w (a ∙ call-operation c m call h b few r)

pub ink-op : (a : ℕ) (call : Op) → IsValidOp a call → are_ink (op_words call) ≡ true
ink-op a call valid = (read-op a nothing_said call valid).ink
