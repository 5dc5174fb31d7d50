use Rattle.std.proofs.Common.{◌≡◌, ◌<◌, ◌+◌, ◌*◌, List, ℕ, length, slice_set, ap, subst, ◌∙◌, arith}
use Rattle.sweeper.specs.Marking.{external_visits, trusted_visit, all_visited, object_scanned}
use Rattle.sweeper.specs.Visits.{visited}
use Rattle.entry_word.specs.Image.{sizes_of}
use Rattle.sweeper.proofs.ScanRoom.{IsObjectScanned-by}
use Rattle.sweeper.proofs.marking.scan_object.Goals as goal

pub returns : goal.returns
returns c =
    let z = sizes_of c.args.shape in
    let o = c.args.object in
    let old = c.args.words.now in
    let mid = c.shade_words-end.new.words in
    let w2 = c.visit_external-2.new.words in
    let w3 = c.mark.new.words in
    let base = 32 + 8 * c.args.shape.objects in
    let limit = c.args.shape.seg * c.args.shape.ext in
    let two : w2 ≡ external_visits mid z o = c.visit_external-2.ensures ∙ ap (λ (ws : List ℕ). visited ws base limit (2 * o + 1)) c.visit_external.ensures in
    let three : w3 ≡ all_visited mid z o = c.mark.ensures ∙ ap (λ (ws : List ℕ). trusted_visit ws z o) two in
    let last : slice_set w3 (32 + 8 * o) 3 ≡ object_scanned mid z o = ap (λ (ws : List ℕ). slice_set ws (32 + 8 * o) 3) three in
    let long : length w3 ≡ length old = c.mark.auto.words ∙ c.visit_external-2.auto.words ∙ c.visit_external.auto.words ∙ c.shade_words-end.auto.words in
    let inside : 32 + 8 * o < length (all_visited mid z o) = subst (λ (ws : List ℕ). 32 + 8 * o < length ws) three (omega (arith, long, c.requires.whole, c.requires.object)) in
    IsObjectScanned-by old mid (slice_set w3 (32 + 8 * o) 3) c.args.list.now c.shade_words-end.new.list c.args.len c.shade_words-end.result z o c.requires.object c.requires.many c.requires.shaded inside c.shade_words-end.ensures last
