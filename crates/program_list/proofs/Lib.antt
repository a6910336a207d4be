mod Printing
