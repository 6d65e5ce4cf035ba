-- What is printed of a file. Assumes nothing.
use Rattle.page.specs.Filed.{BookText}
use Rattle.page.specs.Page.{book_page}
use Rattle.page.specs.Sketch.{sketch_text}
use Rattle.page.specs.declared.Printed as printed
use Rattle.page.specs.declared.Printed.{Printed}

abbrev pub text_of : Printed → BookText
text_of printed.TheVariants.Report = book_page
text_of printed.TheVariants.Sketch = sketch_text
