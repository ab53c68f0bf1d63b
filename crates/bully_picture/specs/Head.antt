-- What stands first in a picture, up to the end of its title.
use Rattle.std.specs.Prelude.{ℕ, List, [], ◌++◌, codes}
use Rattle.std.specs.Fmt.{decimal}
use Rattle.bully_trace.specs.declared.verdict.Verdict.{Verdict}
use Rattle.bully_picture.specs.declared.around.Around.{Around}
use Rattle.bully_picture.specs.declared.page.TheConstants.{MARKERS}
use Rattle.bully_picture.specs.Title.{Begins}
use Rattle.bully_picture.specs.Written.{attribute_text}

-- before the words of the title, which are red if a row decided
abbrev pub title_start : Verdict → List ℕ
title_start (Verdict.Lawful count) =
    codes "<text x=\"64\" y=\"24\" font-size=\"15\" font-weight=\"bold\" fill=\"#222\">"
title_start (Verdict.Refused row why) =
    codes "<text x=\"64\" y=\"24\" font-size=\"15\" font-weight=\"bold\" fill=\"#D55E00\">"
title_start (Verdict.Differs row) =
    codes "<text x=\"64\" y=\"24\" font-size=\"15\" font-weight=\"bold\" fill=\"#D55E00\">"

-- the title of a picture that stands alone; a page has it as its heading
abbrev pub title_line : Around → Verdict → List ℕ → List ℕ
title_line Around.Nothing verdict title = title_start verdict ++ title ++ codes "</text>\n"
title_line Around.Page verdict title = []

-- the head after its first word, of a picture that is so wide and so high
abbrev pub head_text : ℕ → ℕ → List ℕ
head_text width height =
    attribute_text (codes "width") width ++ attribute_text (codes "height") height
    ++ (codes " viewBox=\"0 0 " ++ decimal width ++ codes " " ++ decimal height)
    ++ codes "\" font-family=\"DejaVu Sans, sans-serif\">\n" ++ MARKERS.now

-- the text starts with the head of a picture and this title, with nothing before them or between them
abbrev pub HasHead : List ℕ → Around → Verdict → List ℕ → Type 0
HasHead text around verdict title =
    (width : ℕ) × (height : ℕ) × Begins text (codes "<svg xmlns=\"http://www.w3.org/2000/svg\""
    ++ head_text width height ++ title_line around verdict title)
